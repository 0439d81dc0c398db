-- What it says of single numbers that all are in range; numbers that are a geometry.
use Rattle.std.proofs.Common.{◌≡◌, ◌%◌, ◌<◌, ◌≤◌, arith, Option, Some, None, Ok}
use Rattle.thy_block.specs.declared.parameters.Parameters.{Parameters}
use Rattle.thy_block.specs.Geometry.{IsInRange, geometry_or}

pub base_aligned : (p : Parameters) → IsInRange p → p.base % 4096 ≡ 0
base_aligned p r = r.0.0

pub console_most : (p : Parameters) → IsInRange p → p.console ≤ 16
console_most p r = r.1.1.0.0.1

pub console_below : (p : Parameters) → IsInRange p → p.console < p.pages
console_below p r = r.1.1.0.1

pub epoch_least : (p : Parameters) → IsInRange p → 1 ≤ p.epoch
epoch_least p r = r.1.1.1.0.0

-- a block table has eight entries at least
pub btt_least : (p : Parameters) → IsInRange p → 8 ≤ p.btt
btt_least p r = r.1.1.1.1.0.0.0

pub btt_eights : (p : Parameters) → IsInRange p → p.btt % 8 ≡ 0
btt_eights p r = r.1.1.1.1.0.1

pub ptt_eights : (p : Parameters) → IsInRange p → p.ptt % 8 ≡ 0
ptt_eights p r = r.1.1.1.1.1.0.1

pub limit_least : (p : Parameters) → IsInRange p → 1 ≤ p.limit
limit_least p r = omega arith

-- there are one or two harts
pub harts_least : (p : Parameters) → IsInRange p → 1 ≤ p.harts
harts_least p r = omega arith

pub harts_most : (p : Parameters) → IsInRange p → p.harts ≤ 2
harts_most p r = omega arith

-- numbers that are a geometry are its own
pub geometry_or-same : {Fault : Type 0} (fault : Option Fault) (numbers p : Parameters) → Ok p ≡ geometry_or fault numbers → p ≡ numbers
geometry_or-same None numbers p e = cc
geometry_or-same (Some fault) numbers p e = cc
