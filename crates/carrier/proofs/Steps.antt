-- What one act shows of the meaning after it. Assumes nothing.
use Rattle.std.proofs.Common.{◌≡◌, ℕ, true, ◌⊎◌, Some, None, Option, sym, refl, ap, ◌∙◌, subst, inl, inr, ⊎_elim, arith, rules, MatchOption}
use Rattle.roster.specs.declared.denial.Denial.{Denial}
use Rattle.roster.specs.declared.moves.Move.{Move}
use Rattle.roster.specs.Rosters.{sound}
use Rattle.carrier.specs.declared.history.Act.{Act}
use Rattle.carrier.specs.declared.history.Act.TheVariants.{Put as put_act, Move as move_act, Holds as holds_act, Still as still_act}
use Rattle.carrier.specs.declared.history.Answer.{Answer}
use Rattle.carrier.specs.declared.history.Answer.TheVariants.{Granted as granted, Denied as denied, Held as told}
use Rattle.carrier.specs.Histories.{Answers}
use Rattle.carrier.specs.Views.{View, put_denial, holds_denial, Put, Moved}
use Rattle.carrier.proofs.Puts.{passed, put_cases, put_granted, put_grows, put_here}

holds_granted : (v : View) (seat origin slot : ℕ) → holds_denial v.fixed seat origin slot ≡ None → sound v.fixed.roster seat ≡ true
holds_granted v seat origin slot e = search (rules, passed)

-- what holds after any act
pub record Step (v : View) (a : Act) (b : Answer) (w : View) : Type 0 where
  pub fixed : w.fixed ≡ v.fixed
  pub puts : (i s c : ℕ) → v.puts i s ≡ Some c → w.puts i s ≡ Some c
  pub held : (i o s c : ℕ) → v.held i o s ≡ Some c → w.held i o s ≡ Some c
  -- a put that is new is this act's
  pub new : (i s c : ℕ) → w.puts i s ≡ Some c → (v.puts i s ≡ Some c) ⊎ ((a ≡ put_act i s c) × (b ≡ granted))
  pub put : (i s c : ℕ) → a ≡ put_act i s c → b ≡ granted → (sound w.fixed.roster i ≡ true) × (w.puts i s ≡ Some c)
  pub tells : (i o s : ℕ) (x : Option ℕ) → a ≡ holds_act i o s → b ≡ told x → (sound w.fixed.roster i ≡ true) × (w.held i o s ≡ x) × (w ≡ v)

-- where the meaning is as it was and the act is no put
same : (v : View) (a : Act) (b : Answer) (w : View) → w ≡ v → ((i s c : ℕ) → a ≡ put_act i s c → b ≡ granted → ⊥) → ((i o s : ℕ) (x : Option ℕ) → a ≡ holds_act i o s → b ≡ told x → (sound v.fixed.roster i ≡ true) × (v.held i o s ≡ x)) → Step v a b w
same v a b w e no_put tells =
    subst (Step v a b) (sym e) (record {
      fixed = refl;
      puts = λ i s c h. h;
      held = λ i o s c h. h;
      new = λ i s c h. inl h;
      put = λ i s c p q. absurd (no_put i s c p q);
      tells = λ i o s x p q. ((tells i o s x p q).0, (tells i o s x p q).1, refl);
    })

-- a put that was granted
module _ (v : View) (seat slot code : ℕ) (w : View) (free : put_denial v seat slot ≡ None) (p : Put v seat slot code w) where
  recorded_as : (i s c : ℕ) → i ≡ seat → s ≡ slot → w.puts i s ≡ Some c → put_act seat slot code ≡ put_act i s c
  recorded_as i s c is ss h =
      let here : w.puts i s ≡ Some code = subst (λ k. w.puts k s ≡ Some code) (sym is) (subst (λ k. w.puts seat k ≡ Some code) (sym ss) (put_here v seat slot code w p)) in
      let cs : code ≡ c = cc in
      cc

  fresh : (i s c : ℕ) → w.puts i s ≡ Some c → (v.puts i s ≡ Some c) ⊎ ((put_act seat slot code ≡ put_act i s c) × (granted ≡ granted))
  fresh i s c h = ⊎_elim (λ same. inl (sym same ∙ h)) (λ (is, ss). inr (recorded_as i s c is ss h, refl)) (put_cases v seat slot code w p i s)

  recorded : (i s c : ℕ) → put_act seat slot code ≡ put_act i s c → (sound w.fixed.roster i ≡ true) × (w.puts i s ≡ Some c)
  recorded i s c e =
      let is : seat ≡ i = cc in
      let ss : slot ≡ s = cc in
      let cs : code ≡ c = cc in (
        ap (λ f. sound f.roster i) p.fixed ∙ subst (λ k. sound v.fixed.roster k ≡ true) is (put_granted v seat slot free).0,
        subst (λ k. w.puts k s ≡ Some c) is (subst (λ k. w.puts seat k ≡ Some c) ss (put_here v seat slot code w p ∙ ap (λ k. Some k) cs)),
      )

  put_step : Step v (put_act seat slot code) granted w
  put_step = record {
    fixed = p.fixed;
    puts = put_grows v seat slot code w p (put_granted v seat slot free).1;
    held = λ i o s c h. p.held i o s ∙ h;
    new = fresh;
    put = λ i s c e done. recorded i s c e;
    tells = λ i o s x e q. absurd (let z : ◌≡◌ {A = ℕ} 0 1 = cc in omega arith);
  }

move_step : (v : View) (by : Move) (w : View) → Moved v w → Step v (move_act by) granted w
move_step v by w m = record {
  fixed = m.fixed;
  puts = λ i s c h. m.puts i s ∙ h;
  held = m.held;
  new = λ i s c h. inl (sym (m.puts i s) ∙ h);
  put = λ i s c e q. absurd (let z : ◌≡◌ {A = ℕ} 0 1 = cc in omega arith);
  tells = λ i o s x e q. absurd (let z : ◌≡◌ {A = ℕ} 0 1 = cc in omega arith);
}

-- a denied call
denied_step : (v : View) (a : Act) (b : Answer) (w : View) (d : Denial) → b ≡ denied d → w ≡ v → Step v a b w
denied_step v a b w d e is =
    same v a b w is (λ i s c p q. let z : ◌≡◌ {A = ℕ} 0 1 = cc in omega arith) (λ i o s x p q. absurd (let z : ◌≡◌ {A = ℕ} 0 1 = cc in omega arith))

by_put : (v : View) (seat slot code : ℕ) (b : Answer) (w : View) (o : Option Denial) → put_denial v seat slot ≡ o → MatchOption o ((b ≡ granted) × Put v seat slot code w) (λ d. (b ≡ denied d) × (w ≡ v)) → Step v (put_act seat slot code) b w
by_put v seat slot code b w None free (g, p) = subst (λ x. Step v (put_act seat slot code) x w) (sym g) (put_step v seat slot code w free p)
by_put v seat slot code b w (Some d) e (g, is) = denied_step v _ b w d g is

by_holds : (v : View) (seat origin slot : ℕ) (b : Answer) (w : View) (o : Option Denial) → holds_denial v.fixed seat origin slot ≡ o → MatchOption o (b ≡ told (v.held seat origin slot)) (λ d. b ≡ denied d) → w ≡ v → Step v (holds_act seat origin slot) b w
by_holds v seat origin slot b w None free g is =
    same v _ b w is (λ i s c p q. let z : ◌≡◌ {A = ℕ} 0 1 = cc in omega arith)
    (λ i o s x p q.
    let si : seat ≡ i = cc in
    let oo : origin ≡ o = cc in
    let ss : slot ≡ s = cc in
    let xs : v.held seat origin slot ≡ x = cc in
    (subst (λ k. sound v.fixed.roster k ≡ true) si (holds_granted v seat origin slot free), cc))
by_holds v seat origin slot b w (Some d) e g is = denied_step v _ b w d g is

pub step : (v : View) (a : Act) (b : Answer) (w : View) → Answers v a b w → Step v a b w
step v (put_act seat slot code) b w h = by_put v seat slot code b w (put_denial v seat slot) refl h
step v (move_act by) b w h =
    ⊎_elim (λ (g, m). subst (λ x. Step v (move_act by) x w) (sym g) (move_step v by w m)) (λ (d, g, is). denied_step v (move_act by) b w d g is) h
step v (holds_act seat origin slot) b w (g, is) = by_holds v seat origin slot b w (holds_denial v.fixed seat origin slot) refl g is
step v still_act b w (g, is) =
    same v still_act b w is (λ i s c p q. let z : ◌≡◌ {A = ℕ} 0 1 = cc in omega arith) (λ i o s x p q. absurd (let z : ◌≡◌ {A = ℕ} 0 1 = cc in omega arith))
