-- A text has its words in one way only. Assumes nothing.
use Rattle.std.proofs.Common.{◌≡◌, ℕ, ◌<◌, Bool, true, false, not, List, [], ◌∷◌, ◌++◌, length, sym, refl, ap, ◌∙◌, subst, arith}
use lib.Utf8.{encode, encodes}
use Rattle.std.specs.Char.{len_utf8, is_whitespace, is_not_whitespace}
use Rattle.std.specs.Str.{NoCharPasses, NonePass}
use Rattle.std.proofs.lemmas.List.{append-nil, append_assoc, length-append}
use Rattle.std.proofs.lemmas.Str.{encode_same, length-encode}
use Rattle.std.proofs.lemmas.Bool.Decides.{nat_tests}
use Rattle.script.specs.Words.{First, AreWords}

some_width : (c : ℕ) → 0 < len_utf8 c
some_width c = grind (arith, nat_tests)

-- the text x, unless it is empty, begins with a character that passes p
abbrev Starts : (ℕ → Bool) → List ℕ → Type 0
Starts p x = 0 < length x → (c : ℕ) × (more : List ℕ) × (p c ≡ true) × (x ≡ encode c ++ more)

module _ (p : ℕ → Bool) where
  clash : (c : ℕ) (x y : List ℕ) → x ≡ encode c ++ y → p c ≡ false → Starts p x → ⊥
  clash c x y e bad starts =
      let some : 0 < length x = omega (arith, ap length e, length-append (encode c) y, length-encode c, some_width c) in
      let s = starts some in
      let same : s.0 ≡ c = (encode_same s.0 c s.1 y (sym s.3 ∙ e)).0 in
      let good = s.2 in
      let z : ◌≡◌ {A = ℕ} 0 1 = cc (ap p same) in
      omega arith

  -- where p first passes, there is one cut
  span : (cs ds x y : List ℕ) → encodes cs ++ x ≡ encodes ds ++ y → NonePass p cs → NonePass p ds → Starts p x → Starts p y → (encodes cs ≡ encodes ds) × (x ≡ y)
  span [] [] x y e fc fd sx sy = (refl, e)
  span [] (d ∷ ds) x y e fc fd sx sy = elim (clash d x (encodes ds ++ y) (e ∙ append_assoc (encode d) (encodes ds) y) fd.0 sx) [ ]
  span (c ∷ cs) [] x y e fc fd sx sy = elim (clash c y (encodes cs ++ x) (sym e ∙ append_assoc (encode c) (encodes cs) x) fc.0 sy) [ ]
  span (c ∷ cs) (d ∷ ds) x y e fc fd sx sy =
      let at = encode_same c d (encodes cs ++ x) (encodes ds ++ y) (sym (append_assoc (encode c) (encodes cs) x) ∙ e ∙ append_assoc (encode d) (encodes ds) y) in
      let on = span cs ds x y at.1 fc.1 fd.1 sx sy in
      (cc (at.0, on.0), on.1)

word_starts : (cs w rest : List ℕ) → encodes cs ≡ w → NonePass is_whitespace cs → 0 < length w → Starts is_not_whitespace (w ++ rest)
word_starts [] w rest e f some = let z : ⊥ = omega (arith, ap length e) in elim z [ ]
word_starts (c ∷ cs) w rest e f some = λ _. (c, encodes cs ++ rest, ap not f.0, ap (λ l. l ++ rest) (sym e) ∙ append_assoc (encode c) (encodes cs) rest)

module _ {text : List ℕ} where
  first_starts : {w rest : List ℕ} → First text w rest → Starts is_not_whitespace (w ++ rest)
  first_starts {w} {rest} f = word_starts f.solid.0 w rest f.solid.1 f.solid.2 f.some

  rest_starts : {w rest : List ℕ} → First text w rest → Starts is_whitespace rest
  rest_starts f = λ h. let s = f.ends.1 h in (s.0, f.ends.0, s.1, s.2)

  cut_at : {w rest : List ℕ} → (f : First text w rest) → text ≡ encodes f.blank.0 ++ (w ++ rest)
  cut_at {w} {rest} f = f.cut ∙ ap (λ l. l ++ (w ++ rest)) (sym f.blank.1)

  some_word : {w rest : List ℕ} → First text w rest → NoCharPasses is_not_whitespace text → ⊥
  some_word {w} {rest} f none =
      let e = append-nil (encodes none.0) ∙ none.1 ∙ cut_at f in
      let ends = span is_not_whitespace none.0 f.blank.0 [] (w ++ rest) e none.2 f.blank.2 (λ h. let z : ⊥ = omega arith in elim z [ ]) (first_starts f) in
      omega (arith, f.some, ap length ends.1, length-append w rest)

  one_first : {w rest v tail : List ℕ} → First text w rest → First text v tail → (w ≡ v) × (rest ≡ tail)
  one_first {w} {rest} {v} {tail} f g =
      let gaps = span is_not_whitespace f.blank.0 g.blank.0 (w ++ rest) (v ++ tail) (sym (cut_at f) ∙ cut_at g) f.blank.2 g.blank.2 (first_starts f) (first_starts g) in
      let e = ap (λ l. l ++ rest) f.solid.1 ∙ gaps.1 ∙ ap (λ l. l ++ tail) (sym g.solid.1) in
      let words = span is_whitespace f.solid.0 g.solid.0 rest tail e f.solid.2 g.solid.2 (rest_starts f) (rest_starts g) in
      (sym f.solid.1 ∙ words.0 ∙ g.solid.1, words.1)

pub one_way : (text : List ℕ) (ws vs : List (List ℕ)) → AreWords text ws → AreWords text vs → ws ≡ vs
one_way text [] [] p q = refl
one_way text [] (v ∷ vs) p q = elim (some_word q.1 p) [ ]
one_way text (w ∷ ws) [] p q = elim (some_word p.1 q) [ ]
one_way text (w ∷ ws) (v ∷ vs) p q =
    let first = one_first p.1 q.1 in
    let on = one_way q.0 ws vs (subst (λ l. AreWords l ws) first.1 p.2) q.2 in
    cc (first.0, on)
