-- What one seat makes of the codes and flags that it holds from each origin. Assumes nothing.
use Rattle.std.specs.Prelude.{ℕ, zero, suc, Bool, true, false, cond, not, ◌&&◌, is_some, Some, None, Option, ◌==◌, nat_le, nat_lt}
use Rattle.roster.specs.Quorums.{one_sound, all_but_faulty, sound_rest}
use Rattle.roster.specs.Votes.{passing, said, votes, others}
use Rattle.roster.specs.declared.decision.Decision.{Decision}
use Rattle.roster.specs.declared.decision.Decision.TheVariants.{Nothing, Code}
use Rattle.settling.specs.declared.record.Record.{Record}
use Rattle.settling.specs.declared.record.Due.{Due}
use Rattle.settling.specs.declared.record.Due.TheVariants.{Flag, Vote, Decide}

module _ (n t : ℕ) (codes : ℕ → Option ℕ) where
  -- a code that is flagged 1, and that enough others put, is settled; one flagged 0, where enough put something else, is settled as Nothing
  abbrev pub settled_by : ℕ → ℕ → Option Decision
  settled_by v flag =
      cond (flag == 1 && nat_le (one_sound t) (votes n codes v)) (Some (Code v))
      (cond (flag == 0 && nat_le (one_sound t) (others n codes v)) (Some Nothing)
      None)

  abbrev pub settled_from : Option ℕ → Option ℕ → Option Decision
  settled_from None flag = None
  settled_from (Some v) None = None
  settled_from (Some v) (Some flag) = settled_by v flag

  -- what an origin is settled as, by the flags that are held
  unfoldable pub settled : (ℕ → Option ℕ) → ℕ → Option Decision
  settled flags origin = settled_from (codes origin) (flags origin)

abbrev pub is_figure : Option Decision → Bool
is_figure None = false
is_figure (Some Nothing) = false
is_figure (Some (Code v)) = true

abbrev pub is_nothing : Option Decision → Bool
is_nothing None = false
is_nothing (Some Nothing) = true
is_nothing (Some (Code v)) = false

abbrev pub is_code : ℕ → Option Decision → Bool
is_code v None = false
is_code v (Some Nothing) = false
is_code v (Some (Code w)) = w == v

module _ (n : ℕ) (row : ℕ → Option Decision) where
  -- how many origins are settled as v, and as any figure
  abbrev pub support : ℕ → ℕ
  support v = passing n row (is_code v)

  abbrev pub figures : ℕ
  figures = passing n row is_figure

  -- a figure leads once it has more support than all at lower seats
  abbrev pub ahead : Option Decision → Decision × ℕ → Decision × ℕ
  ahead None lead = lead
  ahead (Some Nothing) lead = lead
  ahead (Some (Code v)) lead = cond (nat_lt lead.1 (support v)) (Code v, support v) lead

  abbrev pub leading : ℕ → Decision × ℕ
  leading zero = (Nothing, 0)
  leading (suc k) = ahead (row (suc k)) (leading k)

  -- the leading figure with its count
  unfoldable pub tally : Decision × ℕ
  tally = leading n

module _ (n t : ℕ) (row : ℕ → Option Decision) where
  abbrev pub stands_out : Bool
  stands_out = nat_le (sound_rest n t) (tally n row).1

  -- the leading figure has enough support, and no second figure is settled
  abbrev pub bit : Bool
  bit = stands_out && (tally n row).1 == figures n row

  -- on 0 Nothing is decided, on 1 the leading figure, once it has enough support
  abbrev pub decides_on : ℕ → Option Due
  decides_on below = cond (below == 0) (Some (Decide Nothing)) (cond (below == 1 && stands_out) (Some (Decide (tally n row).0)) None)

  abbrev pub decides : Option Decision → Option Due
  decides None = None
  decides (Some Nothing) = None
  decides (Some (Code below)) = decides_on below

module _ (n t : ℕ) (r : Record) (codes flags : ℕ → Option ℕ) (below : Option Decision) where
  -- the first of the three that is due, for a seat that has put v
  abbrev pub due_for : ℕ → Option Due
  due_for v =
      cond (not r.flagged && nat_le (all_but_faulty n t) (said n codes)) (Some (Flag (nat_le (one_sound t) (votes n codes v))))
      (cond (not r.voted && nat_le (all_but_faulty n t) (said n (settled n t codes flags))) (Some (Vote (bit n t (settled n t codes flags))))
      (cond (is_some r.decided) None (decides n t (settled n t codes flags) below)))

  abbrev pub due_from : Option ℕ → Option Due
  due_from None = None
  due_from (Some v) = due_for v

  unfoldable pub due : Option Due
  due = due_from r.code
