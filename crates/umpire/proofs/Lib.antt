mod Effects
mod Granted
mod Standing
