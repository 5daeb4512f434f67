-- No two proper orders share a code. Assumes nothing.
use Rattle.std.specs.Prelude.{◌≡◌, ◌≤◌, true}
use Rattle.std.proofs.Common.{arith, rules}
use Rattle.figures.specs.declared.order.Order.{Order}
use Rattle.figures.specs.Figures.{order_code, order_proper}

-- what keeps the parts of a code apart
narrow : (o : Order) → order_proper o ≡ true → (o.to ≤ 99) × (o.litres ≤ 999999)
narrow o h = (search rules, search rules)

pub orders_apart : (f g : Order) → order_proper f ≡ true → order_proper g ≡ true → order_code f ≡ order_code g → f ≡ g
orders_apart f g pf pg e =
    let a = narrow f pf in
    let b = narrow g pg in
    let from : f.from ≡ g.from = omega arith in
    let to : f.to ≡ g.to = omega arith in
    let litres : f.litres ≡ g.litres = omega arith in
    λ i. record { from = from i; to = to i; litres = litres i }
