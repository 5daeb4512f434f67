-- What methods of std that call a closure for each seat answer. Assumes nothing.
use Rattle.std.proofs.Common.{◌≡◌, ℕ, zero, suc, ◌+◌, ◌-◌, ◌<◌, ◌≤◌, Bool, true, false, List, Option, Some, None, sym, refl, subst, ap, ◌∙◌, inl, inr, arith}
use denote.Param.Members.{Mut, Called}
use Rattle.std.proofs.iter.runs.Lists.{same_Some, none-some}
use Rattle.std.proofs.lemmas.Bool.{cases_Bool, cases_eq, false≢true}
use Rattle.std.specs.Array.{IsFromFnResultFrom}
use Rattle.std.specs.Iterator.Runs.{Run, SomeRun, AllItemsGive, AnyItemGives, ItemsCountUp}
use Rattle.std.specs.Option.{option_map}
use Rattle.std.specs.Prelude.{IsTrue, MatchBool, IfSome, IsSomeAnd, slice_index_or}
use Rattle.roster.specs.Counting.{all}
use Rattle.roster.proofs.Seats.{all_at}

all_given : (p : ℕ → Bool) (n : ℕ) → ((i : ℕ) → 1 ≤ i → i ≤ n → p i ≡ true) → all p n ≡ true
all_given p zero h = refl
all_given p (suc n) h = rw (h (suc n) (omega arith) (omega arith)) (all_given p n (λ i lo hi. h i lo (omega arith)))

not_all : (p : ℕ → Bool) (n i : ℕ) → 1 ≤ i → i ≤ n → p i ≡ false → all p n ≡ false
not_all p n i lo hi e = elim (cases_Bool (all p n)) [
  | inr some ↦ some
  | inl each ↦ absurd (false≢true (sym e ∙ all_at p n i lo hi each))
]

-- the item that is known to stand at a place
item : (o : Option ℕ) (P : ℕ → Type 0) (v : ℕ) → IfSome o P → option_map (λ y. y) o ≡ Some v → P v
item None P v h e = absurd (none-some v e)
item (Some w) P v h e = subst P (same_Some w v e) h

if_some : (o : Option ℕ) (P : ℕ → Type 0) → IsSomeAnd o P → IfSome o P
if_some None P h = absurd h
if_some (Some w) P h = h

module _ {S F : Type 0} (steps : S → Option ℕ → S → Type 0) (g : Mut F (ℕ × Unit {0}) Bool) (f : F) (s : S) (p : ℕ → Bool) (n : ℕ) where
  -- what `all` ensures of a closure f over an iterator s
  abbrev Ran : Bool → Type 0
  Ran r = SomeRun steps s (λ q. MatchBool r (IsTrue q.whole × AllItemsGive q g f true) (AnyItemGives q g f false))

  -- the iterator gives the seats in order
  abbrev Seats : Type 0
  Seats = (q : Run steps) → q.from ≡ s → ItemsCountUp q 1 (n + 1)

  -- the closure answers p, and stays as it is
  abbrev Answers : Type 0
  Answers = (i : ℕ) (b : Bool) (f' : F) → Called g f (i, tt) b f' → (f' ≡ f) × (b ≡ p i)

  pub all_of : (r : Bool) → Ran r → Seats → Answers → r ≡ all p n
  all_of true h seats answers =
      let calls = h.2.1 (λ a r f' c. (answers a.0 r f' c).0) in
      let items = seats h.0 h.1 in
      let given : (i : ℕ) → 1 ≤ i → i ≤ n → p i ≡ true = λ i lo hi.
      let place : 1 + (i - 1) ≡ i = omega arith in
      let here = items.3 (i - 1) (omega (arith, items.1 h.2.0)) ∙ ap Some place in
      sym (answers i true f (item (h.0.at (i - 1)) (λ v. Called g f (v, tt) true f) i (calls (i - 1)) here)).1 in
      sym (all_given p n given)
  all_of false h seats answers =
      let call = h.2 (λ a r f' c. (answers a.0 r f' c).0) in
      let items = seats h.0 h.1 in
      let low : call.0 < n = omega (arith, call.1, items.0) in
      let here = item (h.0.at call.0) (λ v. Called g f (v, tt) false f) (1 + call.0) (if_some (h.0.at call.0) _ call.2) (items.3 call.0 call.1) in
      sym (not_all p n (1 + call.0) (omega arith) (omega (arith, low)) (sym (answers (1 + call.0) false f here).1))

-- what stands at each place of an array that `array::from_fn` of std made, where its closure stays as it is
module _ {F B : Type 0} (g : Mut F (ℕ × Unit {0}) B) (f : F) (ys : List B) (stays : (k : ℕ) (y : B) (f' : F) → Called g f (k, tt) y f' → f' ≡ f) where
  pub made_at : (i n : ℕ) → IsFromFnResultFrom g f ys i n → (k : ℕ) (d : B) → i ≤ k → k < i + n → Called g f (k, tt) (slice_index_or ys k d) f
  made_at i zero each k d lo hi = absurd (omega arith)
  made_at i (suc n) each k d lo hi =
      let same = stays i each.1 each.0 each.3 in
      elim (cases_eq k i) [
        | inl here ↦
            let found = subst (λ q. Called g f (i, tt) each.1 q) same each.3 in
            subst (λ j. Called g f (j, tt) (slice_index_or ys j d) f) (sym here) (subst (λ y. Called g f (i, tt) y f) (sym (each.2.1 d)) found)
        | inr later ↦ made_at (i + 1) n (subst (λ q. IsFromFnResultFrom g q ys (i + 1) n) same each.4) k d (omega arith) (omega arith)
      ]
