-- The rules of a sound seat: what it sends and holds on counting a letter. Assumes nothing.
use Rattle.std.specs.Prelude.{ℕ, ◌-◌, Bool, not, ◌&&◌, ◌||◌, List, is_some, Some, Option, nat_le, slice_set}
use Rattle.roster.specs.Quorums.{echo_quorum, one_sound, ready_quorum}
use Rattle.broadcast.specs.declared.cell.Cell.{Cell}
use Rattle.broadcast.specs.declared.letter.Kind.{Kind}
use Rattle.broadcast.specs.declared.letter.Kind.TheVariants.{Init, Echo, Ready}
use Rattle.broadcast.specs.declared.letter.Letter.{Letter}
use Rattle.roster.specs.Votes.{by_seat}
use Rattle.broadcast.specs.Cells.{once, votes}

-- INIT v: ECHO v is sent
abbrev pub counted_init : Cell → ℕ → Cell
counted_init c v = record { init = Some v; echo = c.echo; ready = c.ready; put = c.put; echoed = Some v; readied = c.readied; held = c.held }

module _ (n t : ℕ) where
  -- ECHO v, with those counted now: a quorum of v sends READY v, unless a READY was sent
  abbrev pub counted_echo : Cell → List (Option ℕ) → ℕ → Cell
  counted_echo c echo v = record {
    init = c.init;
    echo = echo;
    ready = c.ready;
    put = c.put;
    echoed = c.echoed;
    readied = once c.readied (nat_le (echo_quorum n t) (votes n echo v)) v;
    held = c.held;
  }

  -- READY v, with those counted now: t + 1 of v send READY v, unless a READY was sent; 2 t + 1 make v held, unless something is
  abbrev pub counted_ready : Cell → List (Option ℕ) → ℕ → Cell
  counted_ready c ready v = record {
    init = c.init;
    echo = c.echo;
    ready = ready;
    put = c.put;
    echoed = c.echoed;
    readied = once c.readied (nat_le (one_sound t) (votes n ready v)) v;
    held = once c.held (nat_le (ready_quorum t) (votes n ready v)) v;
  }

  abbrev pub counted_by : Kind → ℕ → ℕ → Cell → Cell
  counted_by Init sender v c = counted_init c v
  counted_by Echo sender v c = counted_echo c (slice_set c.echo (sender - 1) (Some v)) v
  counted_by Ready sender v c = counted_ready c (slice_set c.ready (sender - 1) (Some v)) v

-- the cell after the letter is counted
abbrev pub counted : ℕ → ℕ → Letter → Cell → Cell
counted n t l c = counted_by n t l.kind l.sender l.code c

-- the letter of a kind that the seat of this cell sent
abbrev pub sent : Kind → Cell → Option ℕ
sent Init c = c.put
sent Echo c = c.echoed
sent Ready c = c.readied

-- the letter of a kind that the seat of this cell counted of a sender
abbrev pub got : Kind → ℕ → Cell → Option ℕ
got Init sender c = c.init
got Echo sender c = by_seat c.echo sender
got Ready sender c = by_seat c.ready sender

-- what the sender sent of a kind was counted by the receiver
abbrev pub arrived : Kind → ℕ → Cell → Cell → Bool
arrived k sender c d = not (is_some (sent k c)) || is_some (got k sender d)

abbrev pub handed : ℕ → Cell → Cell → Bool
handed sender c d = arrived Init sender c d && (arrived Echo sender c d && arrived Ready sender c d)
