-- Each rule keeps a row. Assumes nothing.
use Rattle.std.proofs.Common.{◌≡◌, ℕ, ◌-◌, ◌≤◌, Bool, leb, List, set, Some, None, Option, sym, refl, ap, ◌∙◌, subst, inl, inr, arith}
use Rattle.std.proofs.lemmas.Bool.{cases_eq, le-leb, leb-true}
use Rattle.roster.specs.Counting.{count}
use Rattle.roster.specs.Quorums.{echo_quorum, one_sound, ready_quorum}
use Rattle.broadcast.specs.declared.cell.Cell.{Cell}
use Rattle.broadcast.specs.declared.letter.Kind.{Kind}
use Rattle.broadcast.specs.declared.letter.Kind.TheVariants.{Init, Echo, Ready}
use Rattle.broadcast.specs.declared.letter.Letter.{Letter}
use Rattle.roster.specs.Votes.{by_seat}
use Rattle.broadcast.specs.Cells.{votes, with_put}
use Rattle.broadcast.specs.Rules.{counted, counted_by, counted_init, counted_echo, counted_ready, sent, got}
use Rattle.broadcast.proofs.Kept.{Sound, Backed, Good, Kept}
use Rattle.broadcast.proofs.Senders.{sound_sender}
use Rattle.broadcast.proofs.Votes.{some_not_none, once_due, once_still, once_kept, once_why, seat_more, votes_kept, votes_other}

-- one cell of a row is written
pub record Wrote (x : ℕ → Cell) (to : ℕ) (c : Cell) (y : ℕ → Cell) : Type 0 where
  pub here : y to ≡ c
  pub other : (p : ℕ) → (p ≡ to → ⊥) → y p ≡ x p

module _ (n : ℕ) where
  -- what a cell has sent and counted stays
  pub record Grows (c d : Cell) : Type 0 where
    pub put : (v : ℕ) → c.put ≡ Some v → d.put ≡ Some v
    pub echoed : (v : ℕ) → c.echoed ≡ Some v → d.echoed ≡ Some v
    pub readied : (v : ℕ) → c.readied ≡ Some v → d.readied ≡ Some v
    pub echoes : (v : ℕ) → votes n c.echo v ≤ votes n d.echo v

  grows_same : (c d : Cell) → d ≡ c → Grows c d
  grows_same c d e = record {
    put = λ v h. ap (λ (z : Cell). z.put) e ∙ h;
    echoed = λ v h. ap (λ (z : Cell). z.echoed) e ∙ h;
    readied = λ v h. ap (λ (z : Cell). z.readied) e ∙ h;
    echoes = λ v. let k : votes n d.echo v ≡ votes n c.echo v = ap (λ (z : Cell). votes n z.echo v) e in omega arith;
  }

  grows_row : (x y : ℕ → Cell) (to : ℕ) (c : Cell) → Wrote x to c y → Grows (x to) c → (p : ℕ) → Grows (x p) (y p)
  grows_row x y to c w g p = elim (cases_eq p to) [
    | inr ne ↦ grows_same (x p) (y p) (w.other p ne)
    | inl e ↦ subst (λ q. Grows (x q) (y q)) (sym e) (subst (λ d. Grows (x to) d) (sym w.here) g)
  ]

module _ (n t : ℕ) (faulty : ℕ → Bool) where
  abbrev S : ℕ → Type 0
  S = Sound n t faulty

  module _ (x y : ℕ → Cell) (o : ℕ) (grows : (p : ℕ) → Grows n (x p) (y p)) where
    backed_more : (v : ℕ) → Backed n t faulty x v → Backed n t faulty y v
    backed_more v b = record { seat = b.seat; is_sound = b.is_sound; quorum = omega (arith, b.quorum, (grows b.seat).echoes v) }

    good_more : (c : Cell) → Good n t faulty x o c → Good n t faulty y o c
    good_more c g = record {
      init_sent = λ so v h. (grows o).put v (g.init_sent so v h);
      echo_sent = λ q v lo sq h. (grows q).echoed v (g.echo_sent q v lo sq h);
      ready_sent = λ q v lo sq h. (grows q).readied v (g.ready_sent q v lo sq h);
      echoes_init = g.echoes_init;
      echoes_served = g.echoes_served;
      readies_served = g.readies_served;
      held_why = g.held_why;
      held_when = g.held_when;
      ready_backed = λ v h. backed_more v (g.ready_backed v h);
    }

    good_put : (c : Cell) (v : ℕ) → Good n t faulty y o c → Good n t faulty y o (with_put c v)
    good_put c v g = record {
      init_sent = g.init_sent;
      echo_sent = g.echo_sent;
      ready_sent = g.ready_sent;
      echoes_init = g.echoes_init;
      echoes_served = g.echoes_served;
      readies_served = g.readies_served;
      held_why = g.held_why;
      held_when = g.held_when;
      ready_backed = g.ready_backed;
    }

    good_init : (c : Cell) (v : ℕ) → Good n t faulty y o c → (S o → (x o).put ≡ Some v) → Good n t faulty y o (counted_init c v)
    good_init c v g h = record {
      init_sent = λ so w e. (grows o).put w (h so ∙ e);
      echo_sent = g.echo_sent;
      ready_sent = g.ready_sent;
      echoes_init = refl;
      echoes_served = g.echoes_served;
      readies_served = g.readies_served;
      held_why = g.held_why;
      held_when = g.held_when;
      ready_backed = g.ready_backed;
    }

    module _ (to s v : ℕ) (st : S to) (lo : 1 ≤ s) (c : Cell) (g : Good n t faulty y o c) where
      abbrev echo' : List (Option ℕ)
      echo' = set c.echo (s - 1) (Some v)

      good_echo : by_seat c.echo s ≡ None → (S s → (x s).echoed ≡ Some v) → y to ≡ counted_echo n t c echo' v → Good n t faulty y o (counted_echo n t c echo' v)
      good_echo fresh h is = record {
        init_sent = g.init_sent;
        echo_sent = λ q w lo' sq e. elim (seat_more c.echo s v q lo' lo) [
          | inl k ↦ g.echo_sent q w lo' sq (sym k ∙ e)
          | inr k ↦ (grows q).echoed w (subst (λ i. (x i).echoed ≡ Some w) (sym k.0) (h (subst S k.0 sq) ∙ sym k.1 ∙ e))
        ];
        ready_sent = g.ready_sent;
        echoes_init = g.echoes_init;
        echoes_served = λ w k. elim (cases_eq w v) [
          | inl e ↦ once_due c.readied _ v (le-leb (echo_quorum n t) (votes n echo' v) (subst (λ u. echo_quorum n t ≤ votes n echo' u) e k))
          | inr ne ↦ once_still c.readied _ v (g.echoes_served w (omega (arith, k, votes_other c.echo s v n w lo ne)))
        ];
        readies_served = λ w k. once_still c.readied _ v (g.readies_served w k);
        held_why = g.held_why;
        held_when = g.held_when;
        ready_backed = λ w e. elim (once_why c.readied (leb (echo_quorum n t) (votes n echo' v)) v w e) [
          | inl k ↦ g.ready_backed w k
          | inr k ↦ record {
            seat = to;
            is_sound = st;
            quorum = subst (λ (d : Cell). echo_quorum n t ≤ votes n d.echo w) (sym is)
                (subst (λ u. echo_quorum n t ≤ votes n echo' u) k.1 (leb-true (echo_quorum n t) (votes n echo' v) k.0));
          }
        ];
      }

      abbrev ready' : List (Option ℕ)
      ready' = set c.ready (s - 1) (Some v)

      ready_from : (S s → (x s).readied ≡ Some v) → ((q w : ℕ) → 1 ≤ q → S q → by_seat c.ready q ≡ Some w → (x q).readied ≡ Some w)
          → (q w : ℕ) → 1 ≤ q → S q → by_seat ready' q ≡ Some w → (x q).readied ≡ Some w
      ready_from h old q w lo' sq e = elim (seat_more c.ready s v q lo' lo) [
        | inl k ↦ old q w lo' sq (sym k ∙ e)
        | inr k ↦ subst (λ i. (x i).readied ≡ Some w) (sym k.0) (h (subst S k.0 sq) ∙ sym k.1 ∙ e)
      ]

      good_ready : count faulty n ≤ t → Kept n t faulty x o → by_seat c.ready s ≡ None → (S s → (x s).readied ≡ Some v)
          → ((q w : ℕ) → 1 ≤ q → S q → by_seat c.ready q ≡ Some w → (x q).readied ≡ Some w) → Good n t faulty y o (counted_ready n t c ready' v)
      good_ready few kept fresh h old = record {
        init_sent = g.init_sent;
        echo_sent = g.echo_sent;
        ready_sent = λ q w lo' sq e. (grows q).readied w (ready_from h old q w lo' sq e);
        echoes_init = g.echoes_init;
        echoes_served = λ w k. once_still c.readied _ v (g.echoes_served w k);
        readies_served = λ w k. elim (cases_eq w v) [
          | inl e ↦ once_due c.readied _ v (le-leb (one_sound t) (votes n ready' v) (subst (λ u. one_sound t ≤ votes n ready' u) e k))
          | inr ne ↦ once_still c.readied _ v (g.readies_served w (omega (arith, k, votes_other c.ready s v n w lo ne)))
        ];
        held_why = λ w e. elim (once_why c.held (leb (ready_quorum t) (votes n ready' v)) v w e) [
          | inl k ↦ omega (arith, g.held_why w k, votes_kept c.ready s v n w fresh)
          | inr k ↦ subst (λ u. ready_quorum t ≤ votes n ready' u) k.1 (leb-true (ready_quorum t) (votes n ready' v) k.0)
        ];
        held_when = λ w k. elim (cases_eq w v) [
          | inl e ↦ once_due c.held _ v (le-leb (ready_quorum t) (votes n ready' v) (subst (λ u. ready_quorum t ≤ votes n ready' u) e k))
          | inr ne ↦ once_still c.held _ v (g.held_when w (omega (arith, k, votes_other c.ready s v n w lo ne)))
        ];
        ready_backed = λ w e. elim (once_why c.readied (leb (one_sound t) (votes n ready' v)) v w e) [
          | inl k ↦ g.ready_backed w k
          | inr k ↦
              let q = sound_sender n t faulty ready' v few (omega (arith, leb-true (one_sound t) (votes n ready' v) k.0)) in
              backed_more w (subst (Backed n t faulty x) k.1 ((kept q.0 q.2).ready_backed v (ready_from h old q.0 v q.1 q.2 q.3)))
        ];
      }

  module _ (x y : ℕ → Cell) (o : ℕ) (kept : Kept n t faulty x o) where
    kept_write : (to : ℕ) (c : Cell) → Wrote x to c y → Grows n (x to) c → (S to → Good n t faulty y o c) → Kept n t faulty y o
    kept_write to c w g good p sp = elim (cases_eq p to) [
      | inr ne ↦ subst (Good n t faulty y o) (sym (w.other p ne)) (good_more x y o (grows_row n x y to c w g) (x p) (kept p sp))
      | inl e ↦ subst (λ q. Good n t faulty y o (y q)) (sym e) (subst (Good n t faulty y o) (sym w.here) (good (subst S e sp)))
    ]

    pub kept_put : (v : ℕ) → (x o).put ≡ None → Wrote x o (with_put (x o) v) y → Kept n t faulty y o
    kept_put v fresh w =
        let g : Grows n (x o) (with_put (x o) v) = record {
          put = λ u h. some_not_none (x o).put u fresh h;
          echoed = λ u h. h;
          readied = λ u h. h;
          echoes = λ u. omega arith;
        } in
        kept_write o _ w g (λ so. good_put x y o (grows_row n x y o _ w g) (x o) v (good_more x y o (grows_row n x y o _ w g) (x o) (kept o so)))

    module _ (to s v : ℕ) (st : S to) (lo : 1 ≤ s) (few : count faulty n ≤ t) where
      -- the premise of a sound sender is all that ties a hand-over to what was sent: a stray letter has none
      kept_by : (k : Kind) → got k s (x to) ≡ None → (k ≡ Init → s ≡ o) → (S s → sent k (x s) ≡ Some v) → Wrote x to (counted_by n t k s v (x to)) y → Kept n t faulty y o
      kept_by Init fresh own h w =
          let g : Grows n (x to) (counted_init (x to) v) = record {
            put = λ u e. e;
            echoed = λ u e. some_not_none (x to).init u fresh (sym (kept to st).echoes_init ∙ e);
            readied = λ u e. e;
            echoes = λ u. omega arith;
          } in
          kept_write to _ w g (λ _. good_init x y o (grows_row n x y to _ w g) (x to) v
          (good_more x y o (grows_row n x y to _ w g) (x to) (kept to st))
          (λ so. subst (λ i. (x i).put ≡ Some v) (own refl) (h (subst S (sym (own refl)) so))))
      kept_by Echo fresh own h w =
          let g : Grows n (x to) (counted_echo n t (x to) (set (x to).echo (s - 1) (Some v)) v) = record {
            put = λ u e. e;
            echoed = λ u e. e;
            readied = λ u e. once_kept (x to).readied _ v u e;
            echoes = λ u. votes_kept (x to).echo s v n u fresh;
          } in
          kept_write to _ w g (λ _. good_echo x y o (grows_row n x y to _ w g) to s v st lo (x to)
          (good_more x y o (grows_row n x y to _ w g) (x to) (kept to st)) fresh h w.here)
      kept_by Ready fresh own h w =
          let g : Grows n (x to) (counted_ready n t (x to) (set (x to).ready (s - 1) (Some v)) v) = record {
            put = λ u e. e;
            echoed = λ u e. e;
            readied = λ u e. once_kept (x to).readied _ v u e;
            echoes = λ u. omega arith;
          } in
          kept_write to _ w g (λ _. good_ready x y o (grows_row n x y to _ w g) to s v st lo (x to)
          (good_more x y o (grows_row n x y to _ w g) (x to) (kept to st)) few kept fresh h (kept to st).ready_sent)

    pub kept_counted : (to : ℕ) (l : Letter) → S to → 1 ≤ l.sender → count faulty n ≤ t → got l.kind l.sender (x to) ≡ None → (l.kind ≡ Init → l.sender ≡ o)
        → (S l.sender → sent l.kind (x l.sender) ≡ Some l.code) → Wrote x to (counted n t l (x to)) y → Kept n t faulty y o
    kept_counted to l st lo few fresh own h w = kept_by to l.sender l.code st lo few l.kind fresh own h w

-- what a rule does not touch, and what it only adds
pub counted_put : (n t : ℕ) (l : Letter) (c : Cell) → (counted n t l c).put ≡ c.put
counted_put n t l c = put_by n t l.kind l.sender l.code c where
  put_by : (n t : ℕ) (k : Kind) (s v : ℕ) (c : Cell) → (counted_by n t k s v c).put ≡ c.put
  put_by n t Init s v c = refl
  put_by n t Echo s v c = refl
  put_by n t Ready s v c = refl

pub counted_held : (n t : ℕ) (l : Letter) (c : Cell) (w : ℕ) → c.held ≡ Some w → (counted n t l c).held ≡ Some w
counted_held n t l c w h = held_by n t l.kind l.sender l.code c h where
  held_by : (n t : ℕ) (k : Kind) (s v : ℕ) (c : Cell) → c.held ≡ Some w → (counted_by n t k s v c).held ≡ Some w
  held_by n t Init s v c h = h
  held_by n t Echo s v c h = h
  held_by n t Ready s v c h = once_kept c.held _ v w h
