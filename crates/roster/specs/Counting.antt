-- How many of the seats 1 to n have a property, and a seat that has it. Assumes nothing.
use Rattle.std.specs.Prelude.{◌≡◌, ℕ, zero, suc, ◌+◌, ◌-◌, ◌/◌, ◌%◌, ◌^◌, ◌≤◌, Bool, true, cond, not, ◌&&◌, ◌==◌, nat_le}

abbrev pub count : (ℕ → Bool) → ℕ → ℕ
count p zero = 0
count p (suc n) = cond (p (suc n)) 1 0 + count p n

abbrev pub both : (ℕ → Bool) → (ℕ → Bool) → ℕ → Bool
both p q i = p i && q i

abbrev pub but : (ℕ → Bool) → (ℕ → Bool) → ℕ → Bool
but p q i = p i && not (q i)

-- all of the seats 1 to n have p
abbrev pub all : (ℕ → Bool) → ℕ → Bool
all p zero = true
all p (suc n) = p (suc n) && all p n

-- one of the seats 1 to n that has p
pub record Some (n : ℕ) (p : ℕ → Bool) : Type 0 where
  pub seat : ℕ
  pub low : 1 ≤ seat
  pub high : seat ≤ n
  pub has : p seat ≡ true

abbrev pub is_seat : ℕ → ℕ → Bool
is_seat n i = nat_le 1 i && nat_le i n

-- a set of seats is a number: bit k - 1 stands for seat k
abbrev pub member : ℕ → ℕ → Bool
member set k = (set / 2 ^ (k - 1) % 2) == 1
