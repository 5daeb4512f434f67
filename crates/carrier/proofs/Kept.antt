-- What a history and the meaning at its end keep of each other, act after act. Assumes nothing.
use Rattle.std.proofs.Common.{◌≡◌, ℕ, zero, suc, ◌<◌, ◌≤◌, true, ◌⊎◌, List, [], ◌∷◌, ◌++◌, length, Some, None, Option, sym, refl, ap, ◌∙◌, subst, inl, inr, ⊎_elim, append_assoc, append-nil, arith}
use Rattle.roster.specs.declared.roster.Roster.{Roster}
use Rattle.roster.specs.Rosters.{sound}
use Rattle.carrier.specs.declared.history.Act.{Act}
use Rattle.carrier.specs.declared.history.Entry.{Entry}
use Rattle.carrier.specs.Histories.{At, Granted, Told, Shows, Law, Does, Ran, Chosen}
use Rattle.carrier.specs.Laws.{Lawful}
use Rattle.carrier.specs.Views.{View}
use Rattle.carrier.proofs.Steps.{Step, step}

-- a code that some sound seat holds or put
abbrev Known : Roster → View → ℕ → ℕ → ℕ → Type 0
Known r v o s c = ((sound r o ≡ true) × (v.puts o s ≡ Some c)) ⊎ ((i : ℕ) × (sound r i ≡ true) × (v.held i o s ≡ Some c))

pub record Kept (r : Roster) (h : List Entry) (v : View) : Type 0 where
  pub roster : v.fixed.roster ≡ r
  pub law : Law r h
  -- what was shown still stands
  pub known : (k : ℕ) (e : Entry) (o s c : ℕ) → At h k e → Shows e o s c → Known r v o s c
  -- every put is in the history
  pub backed : (o s c : ℕ) → v.puts o s ≡ Some c → (j : ℕ) × (f : Entry) × At h j f × Granted f o s c
  -- what was shown by a still moment is held by all
  pub settled : (j m : ℕ) (e g : Entry) (i o s c : ℕ) → At h j e → At h m g → j ≤ m → Shows e o s c → g.still ≡ true → sound r i ≡ true → v.held i o s ≡ Some c

no_entry : {X : Type 0} (k : ℕ) (e : Entry) → At [] k e → X
no_entry k e a = let z : ◌≡◌ {A = ℕ} 0 1 = cc in absurd (omega arith)

pub kept_none : (r : Roster) (v : View) → v.fixed.roster ≡ r → ((i s : ℕ) → v.puts i s ≡ None) → Kept r [] v
kept_none r v is none = record {
  roster = is;
  law = record { one = λ j k e f o s c d a. no_entry j e a; from_put = λ k e i o s c a. no_entry k e a; spread = λ j m k e g f i o s c x a. no_entry j e a };
  known = λ k e o s c a. no_entry k e a;
  backed = λ o s c p. let z : ◌≡◌ {A = ℕ} 0 1 = cc (none o s) in absurd (omega arith);
  settled = λ j m e g i o s c a. no_entry j e a;
}

-- an entry of a history with one more is an old one or the new one
at_push : (h : List Entry) (n : Entry) (k : ℕ) (e : Entry) → At (h ++ (n ∷ [])) k e → ((k < length h) × At h k e) ⊎ ((k ≡ length h) × (e ≡ n))
at_push [] n zero e a = inr (refl, cc)
at_push [] n (suc k) e a = no_entry k e a
at_push (x ∷ h) n zero e a = inl (omega arith, a)
at_push (x ∷ h) n (suc k) e a = ⊎_elim (λ (lt, b). inl (omega arith, b)) (λ (is, b). inr (ap suc is, b)) (at_push h n k e a)

at_old : (h : List Entry) (n : Entry) (k : ℕ) (e : Entry) → At h k e → At (h ++ (n ∷ [])) k e
at_old [] n k e a = no_entry k e a
at_old (x ∷ h) n zero e a = a
at_old (x ∷ h) n (suc k) e a = at_old h n k e a

at_new : (h : List Entry) (n : Entry) → At (h ++ (n ∷ [])) (length h) n
at_new [] n = refl
at_new (x ∷ h) n = at_new h n

at_length : (h : List Entry) (k : ℕ) (e : Entry) → At h k e → k < length h
at_length [] k e a = no_entry k e a
at_length (x ∷ h) zero e a = omega arith
at_length (x ∷ h) (suc k) e a = omega (arith, at_length h k e a)

module _ (r : Roster) (h : List Entry) (v w : View) (n : Entry) (old : Kept r h v) (does : Does v n w) (lawful : Lawful w) where
  abbrev h' : List Entry
  h' = h ++ (n ∷ [])

  s' : Step v n.act n.answer w
  s' = step v n.act n.answer w does.0

  is_roster : w.fixed.roster ≡ r
  is_roster = ap (λ f. f.roster) s'.fixed ∙ old.roster

  sound_w : (i : ℕ) → sound r i ≡ true → sound w.fixed.roster i ≡ true
  sound_w i e = ap (λ x. sound x i) is_roster ∙ e

  sound_r : (i : ℕ) → sound w.fixed.roster i ≡ true → sound r i ≡ true
  sound_r i e = ap (λ x. sound x i) (sym is_roster) ∙ e

  still_known : (o s c : ℕ) → Known r v o s c → Known r w o s c
  still_known o s c k = ⊎_elim (λ (so, p). inl (so, s'.puts o s c p)) (λ (i, si, p). inr (i, si, s'.held i o s c p)) k

  shown : (o s c : ℕ) → Shows n o s c → Known r w o s c
  shown o s c k =
      ⊎_elim (λ (a, b). let p = s'.put o s c a b in inl (sound_r o p.0, p.1))
      (λ (i, (a, b)). let p = s'.tells i o s (Some c) a b in inr (i, sound_r i p.0, p.1)) k

  known' : (k : ℕ) (e : Entry) (o s c : ℕ) → At h' k e → Shows e o s c → Known r w o s c
  known' k e o s c a x =
      ⊎_elim (λ (lt, b). still_known o s c (old.known k e o s c b x)) (λ (is, b). shown o s c (subst (λ y. Shows y o s c) b x)) (at_push h n k e a)

  -- all that is known from one origin and slot is one code
  known_one : (o s c d : ℕ) → Known r w o s c → Known r w o s d → c ≡ d
  known_one o s c d (inl (so, p)) (inl (so', q)) = cc
  known_one o s c d (inl (so, p)) (inr (i, si, q)) = let e = lawful.from_put i o s d (sound_w i si) (sound_w o so) q in cc
  known_one o s c d (inr (i, si, p)) (inl (so, q)) = let e = lawful.from_put i o s c (sound_w i si) (sound_w o so) p in cc
  known_one o s c d (inr (i, si, p)) (inr (j, sj, q)) = lawful.one i j o s c d (sound_w i si) (sound_w j sj) p q

  known_all : w.still ≡ true → (i o s c : ℕ) → sound r i ≡ true → Known r w o s c → w.held i o s ≡ Some c
  known_all q i o s c si (inl (so, p)) = lawful.arrived q i o s c (sound_w i si) (sound_w o so) p
  known_all q i o s c si (inr (j, sj, p)) = lawful.spread q j i o s c (sound_w j sj) (sound_w i si) p

  backed' : (o s c : ℕ) → w.puts o s ≡ Some c → (j : ℕ) × (f : Entry) × At h' j f × Granted f o s c
  backed' o s c p =
      ⊎_elim (λ q. let (j, f, a, b) = old.backed o s c q in (j, f, at_old h n j f a, b)) (λ q. (length h, n, at_new h n, q)) (s'.new o s c p)

  settled' : (j m : ℕ) (e g : Entry) (i o s c : ℕ) → At h' j e → At h' m g → j ≤ m → Shows e o s c → g.still ≡ true → sound r i ≡ true → w.held i o s ≡ Some c
  settled' j m e g i o s c aj am le x q si =
      ⊎_elim
      (λ (lt, bm). ⊎_elim
      (λ (lt', bj). s'.held i o s c (old.settled j m e g i o s c bj bm le x q si))
      (λ (is, b). absurd (omega arith))
      (at_push h n j e aj))
      (λ (is, b). known_all (sym does.1 ∙ ap (λ y. y.still) (sym b) ∙ q) i o s c si (known' j e o s c aj x))
      (at_push h n m g am)

  law' : Law r h'
  law' = record {
    one = λ j k e f o s c d a b x y. known_one o s c d (known' j e o s c a x) (known' k f o s d b y);
    from_put = λ k e i o s c a t so. ⊎_elim
        (λ (lt, b). let (j, f, before, aj, g) = old.law.from_put k e i o s c b t so in (j, f, before, at_old h n j f aj, g))
        (λ (is, b).
        let (ta, tb) = subst (λ y. Told y i o s (Some c)) b t in
        let (si, held, same) = s'.tells i o s (Some c) ta tb in
        let (j, f, aj, g) = old.backed o s c (ap (λ y. y.puts o s) (sym same) ∙ lawful.from_put i o s c si (sound_w o so) held) in
        (j, f, subst (λ y. j < y) (sym is) (at_length h j f aj), at_old h n j f aj, g))
        (at_push h n k e a);
    spread = λ j m k e g f i o s c x aj am ak jm mk shows q t. ⊎_elim
        (λ (lt, bk). ⊎_elim
        (λ (ltm, bm). ⊎_elim
        (λ (ltj, bj). old.law.spread j m k e g f i o s c x bj bm bk jm mk shows q t)
        (λ (is, b). absurd (omega arith))
        (at_push h n j e aj))
        (λ (is, b). absurd (omega arith))
        (at_push h n m g am))
        (λ (is, b).
        let (ta, tb) = subst (λ y. Told y i o s x) b t in
        let (si, held, same) = s'.tells i o s x ta tb in
        sym held ∙ settled' j m e g i o s c aj am jm shows q (sound_r i si))
        (at_push h n k f ak);
  }

  pub kept_next : Kept r h' w
  kept_next = record { roster = is_roster; law = law'; known = known'; backed = backed'; settled = settled' }

pub ran_next : (v : View) (h : List Entry) (u : View) (n : Entry) (w : View) → Ran v h u → Does u n w → Ran v (h ++ (n ∷ [])) w
ran_next v [] u n w e d = (w, subst (λ x. Does x n w) e d, refl)
ran_next v (x ∷ h) u n w (y, dy, ran) d = (y, dy, ran_next y h u n w ran d)

module _ {P : Type 0} (chooses : P → List Entry → Option Act → P → Type 0) where
  chosen_more : (p : P) (before h : List Entry) (u : P) (n : Entry) (w : P) → Chosen chooses p before h u → chooses u (before ++ h) (Some n.act) w → Chosen chooses p before (h ++ (n ∷ [])) w
  chosen_more p before [] u n w e c = (w, subst (λ x. chooses x before (Some n.act) w) e (subst (λ l. chooses u l (Some n.act) w) (append-nil before) c), refl)
  chosen_more p before (x ∷ h) u n w (y, cy, rest) c =
      (y, cy, chosen_more y (before ++ (x ∷ [])) h u n w rest (subst (λ l. chooses u l (Some n.act) w) (sym (append_assoc before (x ∷ []) h)) c))

  pub chosen_next : (p : P) (h : List Entry) (u : P) (n : Entry) (w : P) → Chosen chooses p [] h u → chooses u h (Some n.act) w → Chosen chooses p [] (h ++ (n ∷ [])) w
  chosen_next p h u n w c e = chosen_more p [] h u n w c e
