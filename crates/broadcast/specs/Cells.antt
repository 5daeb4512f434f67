-- What stands in a cell. Assumes nothing.
use Rattle.std.specs.Prelude.{ℕ, Bool, cond, List, [], replicate, Some, None, Option}
use Rattle.roster.specs.Votes.{by_seat, is, votes as seat_votes}
use Rattle.broadcast.specs.declared.cell.Cell.{Cell}

-- nothing counted, sent or held
abbrev pub blank : Cell
blank = record { init = None; echo = replicate 10 None; ready = replicate 10 None; put = None; echoed = None; readied = None; held = None }

-- what is read where there is no cell
abbrev pub none : Cell
none = record { init = None; echo = []; ready = []; put = None; echoed = None; readied = None; held = None }

-- a list said v of a sender: seat k stands at index k - 1
abbrev pub said : List (Option ℕ) → ℕ → ℕ → Bool
said by v sender = is v (by_seat by sender)

-- how many of the seats 1 to n said v
abbrev pub votes : ℕ → List (Option ℕ) → ℕ → ℕ
votes n by v = seat_votes n (by_seat by) v

-- what is sent or held once stays; else it is v, where that is due
abbrev pub once : Option ℕ → Bool → ℕ → Option ℕ
once (Some w) due v = Some w
once None due v = cond due (Some v) None

-- the origin's own cell after it sent INIT v
abbrev pub with_put : Cell → ℕ → Cell
with_put c v = record { init = c.init; echo = c.echo; ready = c.ready; put = Some v; echoed = c.echoed; readied = c.readied; held = c.held }
