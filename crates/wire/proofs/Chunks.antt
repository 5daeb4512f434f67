-- Sixteen bytes put in front of a buffer that has room for a letter. Assumes nothing.
use Rattle.std.proofs.Common.{◌≡◌, ℕ, ◌≤◌, List, [], ◌∷◌, ◌++◌, length, get_or, take, drop, sym, ap, ◌∙◌, take-append-drop}
use lib.Lanes.{put_chunk}
use Rattle.std.proofs.lemmas.List.FromFn.{fill_by_all}
use Rattle.std.proofs.lemmas.List.{get_or-take, length-take-le}

pub put_front : (xs : List ℕ) → 23 ≤ length xs → (a b c d e f g h i j k l m n o p : ℕ) → let ys = a ∷ b ∷ c ∷ d ∷ e ∷ f ∷ g ∷ h ∷ i ∷ j ∷ k ∷ l ∷ m ∷ n ∷ o ∷ p ∷ [] in put_chunk 0 xs ys ≡ ys ++ (get_or xs 16 0 ∷ get_or xs 17 0 ∷ get_or xs 18 0 ∷ get_or xs 19 0 ∷ get_or xs 20 0 ∷ get_or xs 21 0 ∷ get_or xs 22 0 ∷ drop 23 xs)
put_front xs room a b c d e f g h i j k l m n o p =
    let at = λ (z : ℕ). get_or xs z 0 in
    let front = fill_by_all at (take 23 xs) 23 0 (length-take-le 23 xs room) (λ z lt. get_or-take 23 xs z 0 lt) in
    ap (λ s. put_chunk 0 s (a ∷ b ∷ c ∷ d ∷ e ∷ f ∷ g ∷ h ∷ i ∷ j ∷ k ∷ l ∷ m ∷ n ∷ o ∷ p ∷ [])) (sym (take-append-drop 23 xs) ∙ ap (λ s. s ++ drop 23 xs) front)
