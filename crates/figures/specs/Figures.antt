-- The kinds of figures: which are proper, and the codes that they write. Assumes nothing.
use Rattle.std.specs.Prelude.{ℕ, ◌+◌, ◌*◌, Bool, not, ◌&&◌, ◌==◌, nat_le}
use Rattle.figures.specs.declared.order.Order.{Order}
use Rattle.figures.specs.declared.reading.Reading.{Reading}

abbrev pub is_tank : ℕ → Bool
is_tank k = nat_le 1 k && nat_le k 99

abbrev pub reading_proper : Reading → Bool
reading_proper r = is_tank r.tank && nat_le r.litres 999999

abbrev pub reading_code : Reading → ℕ
reading_code r = r.tank * 1000000 + r.litres

-- between two different tanks, and not of nothing
abbrev pub order_proper : Order → Bool
order_proper o = (is_tank o.from && is_tank o.to) && (not (o.from == o.to) && (nat_le 1 o.litres && nat_le o.litres 999999))

abbrev pub order_code : Order → ℕ
order_code o = (o.from * 100 + o.to) * 1000000 + o.litres
