-- What each call of a device leaves of what lists the calls that have succeeded.
use Rattle.std.specs.Prelude.{◌≡◌, List, [], ◌∷◌, ◌++◌, Option, IfSome, Vec}
use Rattle.std.specs.declared.alloc.Global.{Global}
use Rattle.thy_observe.specs.declared.listing.Call.{Call}
use Rattle.thy_observe.specs.declared.listing.Listing.{Listing}

-- a list has one call more, if there was one, and memory did not run out
abbrev pub Lists : Call → Option (Vec Call Global) → Option (Vec Call Global) → Type 0
Lists call old new = (before : List Call) → IfSome old (λ v. v.items ≡ before) → IfSome new (λ v. v.items ≡ before ++ call ∷ [])

-- a call was made of a device, and is listed
abbrev pub HasCall : {N : Type 0} → Call → Listing N → Listing N → Type 0
HasCall call old new = Lists call old.calls new.calls
