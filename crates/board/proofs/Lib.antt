mod Effects
mod Granted
mod Places
