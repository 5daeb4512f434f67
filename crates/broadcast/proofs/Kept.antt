-- What the rules keep in a row of cells: those of all receivers, for one origin and slot. Assumes nothing.
use Rattle.std.proofs.Common.{◌≡◌, ℕ, ◌≤◌, Bool, true, not, ◌&&◌, is_some, Some}
use Rattle.roster.specs.Counting.{is_seat}
use Rattle.roster.specs.Quorums.{echo_quorum, one_sound, ready_quorum}
use Rattle.broadcast.specs.declared.cell.Cell.{Cell}
use Rattle.roster.specs.Votes.{by_seat}
use Rattle.broadcast.specs.Cells.{votes}

module _ (n t : ℕ) (faulty : ℕ → Bool) where
  abbrev pub Sound : ℕ → Type 0
  Sound i = (is_seat n i && not (faulty i)) ≡ true

  -- some sound seat has counted a quorum of ECHO v
  pub record Backed (x : ℕ → Cell) (v : ℕ) : Type 0 where
    pub seat : ℕ
    pub is_sound : Sound seat
    pub quorum : echo_quorum n t ≤ votes n (x seat).echo v

  -- a sound receiver's cell in the row of an origin
  pub record Good (x : ℕ → Cell) (o : ℕ) (c : Cell) : Type 0 where
    -- what it counted of a sound sender is what that sent
    pub init_sent : Sound o → (v : ℕ) → c.init ≡ Some v → (x o).put ≡ Some v
    pub echo_sent : (q v : ℕ) → 1 ≤ q → Sound q → by_seat c.echo q ≡ Some v → (x q).echoed ≡ Some v
    pub ready_sent : (q v : ℕ) → 1 ≤ q → Sound q → by_seat c.ready q ≡ Some v → (x q).readied ≡ Some v
    pub echoes_init : c.echoed ≡ c.init
    -- a READY is sent as soon as it may be
    pub echoes_served : (v : ℕ) → echo_quorum n t ≤ votes n c.echo v → is_some c.readied ≡ true
    pub readies_served : (v : ℕ) → one_sound t ≤ votes n c.ready v → is_some c.readied ≡ true
    -- it holds only, and always, on a quorum of READYs
    pub held_why : (v : ℕ) → c.held ≡ Some v → ready_quorum t ≤ votes n c.ready v
    pub held_when : (v : ℕ) → ready_quorum t ≤ votes n c.ready v → is_some c.held ≡ true
    -- a READY that it sent goes back to a quorum of ECHOs
    pub ready_backed : (v : ℕ) → c.readied ≡ Some v → Backed x v

  abbrev pub Kept : (ℕ → Cell) → ℕ → Type 0
  Kept x o = (p : ℕ) → Sound p → Good x o (x p)

  -- each sound receiver has counted what a sound seat sent
  pub record Quiet (x : ℕ → Cell) (o : ℕ) : Type 0 where
    pub inits : (p : ℕ) → Sound p → Sound o → is_some (x o).put ≡ true → is_some (x p).init ≡ true
    pub echoes : (p q : ℕ) → Sound p → Sound q → is_some (x q).echoed ≡ true → is_some (by_seat (x p).echo q) ≡ true
    pub readies : (p q : ℕ) → Sound p → Sound q → is_some (x q).readied ≡ true → is_some (by_seat (x p).ready q) ≡ true
