-- A shelf that nothing was done to.
use Rattle.std.proofs.Common.{◌≡◌, ◌∙◌, ap}
use Rattle.thy_block.specs.Outside.{Stock, HasNotFailed}

-- a shelf that has not failed, and whose files stayed, is the one before
pub stock_same : (old new : Stock) → new.held ≡ old.held → HasNotFailed old new → new ≡ old
stock_same old new held calm =
    ap (λ h. record { held = h; failed = new.failed; faults = new.faults }) held
    ∙ ap (λ names. record { held = old.held; failed = names; faults = new.faults }) calm.failed
    ∙ ap (λ count. record { held = old.held; failed = old.failed; faults = count }) calm.faults
