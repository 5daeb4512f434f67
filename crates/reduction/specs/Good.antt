-- What every call of a reduction keeps, if it is matched. Assumes nothing.
use Rattle.std.specs.Prelude.{◌≡◌, true}
use Rattle.carrier.specs.declared.carrier.Carrier.{Ghosts as CarrierGhosts}
use Rattle.agreement.specs.declared.agreement.Agreement.{Ghosts}
use Rattle.agreement.specs.Laws.{Lawful}
use Rattle.settling.specs.Layers.{matched, meaning}
use Rattle.settling.proofs.Kept.{Kept}
use Rattle.settling.proofs.Laws as laws
use Rattle.reduction.specs.declared.reduction.Reduction.{Reduction}
use Rattle.reduction.specs.Parts.{layer_of}

module _ {C B : Type 0} (carrier : CarrierGhosts C) (below : Ghosts B) where
  pub record Good (s : Reduction C B) : Type 0 where
    pub carrier_ok : carrier.ok s.carrier
    pub below_ok : below.ok s.below
    pub kept : Kept (layer_of carrier below s)

  abbrev pub Ok : Reduction C B → Type 0
  Ok s = matched (layer_of carrier below s) ≡ true → Good s

  -- an untouched reduction has it
  pub fresh : (s : Reduction C B) → (meaning (layer_of carrier below s)).untouched ≡ true → Ok s
  fresh s u m =
      let l = layer_of carrier below s in
      let parts = laws.untouched_why l m u in
      let c = carrier.fresh s.carrier parts.carrier in
      let b = below.fresh s.below parts.below in
      record { carrier_ok = c; below_ok = b; kept = laws.fresh_kept l s.table.clear parts (carrier.lawful s.carrier c) (below.lawful s.below b) }

  -- and the laws follow from it
  pub lawful : (s : Reduction C B) → Ok s → Lawful (meaning (layer_of carrier below s))
  lawful s ok =
      laws.lawful (layer_of carrier below s) s.table.clear
      (λ m. let good = ok m in record { carrier = carrier.lawful s.carrier good.carrier_ok; below = below.lawful s.below good.below_ok; kept = good.kept })
