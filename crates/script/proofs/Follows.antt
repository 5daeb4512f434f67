-- Numbers after the first word, one more at a time. Assumes nothing.
use Rattle.std.proofs.Common.{◌≡◌, ℕ, ◌+◌, ◌-◌, ◌<◌, List, [], ◌∷◌, ◌++◌, length, get_or, drop, map, Bor, Some, None, sym, ap, ◌∙◌, subst, ⊎_elim, arith}
use Rattle.std.proofs.lemmas.List.{get_or_append_left, get_or_push, get_or_default, get_or-map, length-map, length_push, same_lists}
use Rattle.std.proofs.lemmas.Grind.{get_or_after_one}
use Rattle.std.proofs.lemmas.Bool.{cases_lt}
use Rattle.std.proofs.Math.ListN.{length-drop}
use Rattle.script.specs.Numbers.{Number, Follow}
use Rattle.script.specs.Words.{word_at}

-- the first numbers are written by the words after the first
abbrev pub Sofar : List (List ℕ) → List ℕ → Type 0
Sofar ws ns = (j : ℕ) → j < length ns → Number (word_at ws (j + 1)) (Some (get_or ns j 0))

pub follow_more : (ws : List (List ℕ)) (ns : List ℕ) (n : ℕ) → Sofar ws ns → Number (word_at ws (length ns + 1)) (Some n) → Sofar ws (ns ++ (n ∷ []))
follow_more ws ns n each new =
    let long = length_push ns n in
    λ j lt. ⊎_elim
    (λ h. subst (λ x. Number (word_at ws (j + 1)) (Some x)) (sym (get_or_append_left ns (n ∷ []) 0 j h)) (each j h))
    (λ h.
    let last : length ns ≡ j = omega arith in
    subst (λ i. Number (word_at ws (i + 1)) (Some (get_or (ns ++ (n ∷ [])) j 0))) last (subst (λ x. Number (word_at ws (length ns + 1)) (Some x)) (sym (get_or_push ns n 0 j last)) new))
    (cases_lt j (length ns))

pub no_follow : (ws : List (List ℕ)) (ms : List ℕ) (i : ℕ) → i + 1 < length ws → Number (word_at ws (i + 1)) None → Follow ws ms → ⊥
no_follow ws ms i lt none f = none (f.each i (omega (arith, f.many))).0

-- rest has the words after the first
module _ (ws : List (List ℕ)) (rest : List (Bor (List ℕ))) (is : map (λ w. w.now) rest ≡ drop 1 ws) where
  pub many_rest : length rest ≡ length ws - 1
  many_rest = omega (arith, ap length is, length-map rest (λ w. w.now), length-drop 1 ws)

  pub word_here : (i : ℕ) → i < length rest → (d : Bor (List ℕ)) → (get_or rest i d).now ≡ word_at ws (i + 1)
  unfolding word_at
  word_here i lt d =
      sym (get_or-map (λ w. w.now) rest i d [] lt) ∙ ap (λ l. get_or l i []) is ∙ get_or_after_one ws i [] ∙ ap (λ k. get_or ws k []) (omega arith)

-- a line's numbers are its only ones
pub follow_one : (ws : List (List ℕ)) (ns ms : List ℕ) → Follow ws ns → Follow ws ms → ns ≡ ms
follow_one ws ns ms f g =
    let long : length ns ≡ length ms = omega (arith, f.many, g.many) in
    same_lists ns ms long (λ k d lt.
    let lt' : k < length ms = omega arith in
    get_or_default ns k d 0 lt ∙ (f.each k lt).1 ∙ sym (g.each k lt').1 ∙ get_or_default ms k 0 d lt')
