-- What follows in a row that the rules have kept. Assumes nothing.
use Rattle.std.proofs.Common.{◌≡◌, ℕ, ◌*◌, ◌<◌, ◌≤◌, Bool, true, is_some as option_is_some, Some, sym, ◌∙◌, arith}
use Rattle.roster.specs.Counting.{count}
use Rattle.broadcast.specs.declared.cell.Cell.{Cell}
use Rattle.roster.specs.Votes.{by_seat}
use Rattle.broadcast.proofs.Kept.{Sound, Backed, Kept, Quiet}
use Rattle.broadcast.proofs.Senders.{low_seat, sound_sender, shared_sender, all_said, sound_said}
use Rattle.roster.proofs.Voting.{said_code}
use Rattle.broadcast.proofs.Votes.{some_same, is_some}

module _ (n t : ℕ) (faulty : ℕ → Bool) (few : count faulty n ≤ t) (third : 3 * t < n) (x : ℕ → Cell) (o : ℕ) (kept : Kept n t faulty x o) where
  abbrev S : ℕ → Type 0
  S = Sound n t faulty

  -- a READY goes back to a sound seat's ECHO
  echo_behind : (v : ℕ) → Backed n t faulty x v → (q : ℕ) × S q × ((x q).echoed ≡ Some v)
  echo_behind v b =
      let s = sound_sender n t faulty (x b.seat).echo v few (omega (arith, b.quorum)) in
      (s.0, s.2, (kept b.seat b.is_sound).echo_sent s.0 v s.1 s.2 s.3)

  backed_same : (v w : ℕ) → Backed n t faulty x v → Backed n t faulty x w → v ≡ w
  backed_same v w a b =
      let s = shared_sender n t faulty (x a.seat).echo (x b.seat).echo v w few a.quorum b.quorum in
      some_same (x s.0).echoed v w
      ((kept a.seat a.is_sound).echo_sent s.0 v s.1 s.2 s.3)
      ((kept b.seat b.is_sound).echo_sent s.0 w s.1 s.2 s.4)

  -- a holding goes back to a sound seat's READY, and so to a quorum of ECHOs
  held_backed : (p v : ℕ) → S p → (x p).held ≡ Some v → Backed n t faulty x v
  held_backed p v sp h =
      let s = sound_sender n t faulty (x p).ready v few (omega (arith, (kept p sp).held_why v h)) in
      (kept s.0 s.2).ready_backed v ((kept p sp).ready_sent s.0 v s.1 s.2 s.3)

  pub one : (p q v w : ℕ) → S p → S q → (x p).held ≡ Some v → (x q).held ≡ Some w → v ≡ w
  one p q v w sp sq h k = backed_same v w (held_backed p v sp h) (held_backed q w sq k)

  backed_put : (v : ℕ) → S o → Backed n t faulty x v → (x o).put ≡ Some v
  backed_put v so b =
      let e = echo_behind v b in
      let g = kept e.0 e.1 in
      g.init_sent so v (sym g.echoes_init ∙ e.2)

  pub from_put : (p v : ℕ) → S p → S o → (x p).held ≡ Some v → (x o).put ≡ Some v
  from_put p v sp so h = backed_put v so (held_backed p v sp h)

  module _ (quiet : Quiet n t faulty x o) where
    -- a READY that a sound seat sent was counted everywhere
    ready_there : (p q v : ℕ) → S p → S q → (x q).readied ≡ Some v → by_seat (x p).ready q ≡ Some v
    ready_there p q v sp sq h =
        let s = said_code (by_seat (x p).ready q) (quiet.readies p q sp sq (is_some _ v h)) in
        let e = (kept p sp).ready_sent q s.0 (low_seat n t faulty q sq) sq s.1 in
        s.1 ∙ sym e ∙ h

    echo_there : (p q v : ℕ) → S p → S q → (x q).echoed ≡ Some v → by_seat (x p).echo q ≡ Some v
    echo_there p q v sp sq h =
        let s = said_code (by_seat (x p).echo q) (quiet.echoes p q sp sq (is_some _ v h)) in
        let e = (kept p sp).echo_sent q s.0 (low_seat n t faulty q sq) sq s.1 in
        s.1 ∙ sym e ∙ h

    -- all sound seats sent READY v, so all hold something
    all_ready : (v : ℕ) → ((q : ℕ) → S q → (x q).readied ≡ Some v) → (p : ℕ) → S p → option_is_some (x p).held ≡ true
    all_ready v h p sp = (kept p sp).held_when v
        (omega (arith, all_said n t faulty (x p).ready v few (λ q sq. ready_there p q v sp sq (h q sq))))

    pub spread : (p q v : ℕ) → S p → S q → (x p).held ≡ Some v → (x q).held ≡ Some v
    spread p q v sp sq h =
        let ready : (r : ℕ) → S r → (x r).readied ≡ Some v = λ r sr.
        let s = said_code (x r).readied ((kept r sr).readies_served v
        (sound_said n t faulty (x p).ready (x r).ready v few ((kept p sp).held_why v h)
        (λ i lo si e. ready_there r i v sr si ((kept p sp).ready_sent i v lo si e)))) in
        s.1 ∙ rw (backed_same s.0 v ((kept r sr).ready_backed s.0 s.1) (held_backed p v sp h)) in
        let s = said_code (x q).held (all_ready v ready q sq) in
        s.1 ∙ rw (one q p s.0 v sq sp s.1 h)

    -- a sound origin's INIT was echoed by all sound seats
    all_echo : (v : ℕ) → S o → (x o).put ≡ Some v → (r : ℕ) → S r → (x r).echoed ≡ Some v
    all_echo v so h r sr =
        let s = said_code (x r).init (quiet.inits r sr so (is_some _ v h)) in
        (kept r sr).echoes_init ∙ s.1 ∙ sym ((kept r sr).init_sent so s.0 s.1) ∙ h

    all_readied : (v : ℕ) → S o → (x o).put ≡ Some v → (r : ℕ) → S r → (x r).readied ≡ Some v
    all_readied v so h r sr =
        let s = said_code (x r).readied ((kept r sr).echoes_served v
        (omega (arith, all_said n t faulty (x r).echo v few (λ q sq. echo_there r q v sr sq (all_echo v so h q sq))))) in
        s.1 ∙ sym (backed_put s.0 so ((kept r sr).ready_backed s.0 s.1)) ∙ h

    pub arrived : (p v : ℕ) → S p → S o → (x o).put ≡ Some v → (x p).held ≡ Some v
    arrived p v sp so h =
        let s = said_code (x p).held (all_ready v (all_readied v so h) p sp) in
        s.1 ∙ sym (from_put p s.0 sp so s.1) ∙ h
