-- What the instruction at pc reads or writes lies within memory.
use Rattle.std.proofs.Common.{◌≡◌, ℕ, ◌%◌, ◌==◌, Bool, true, false, if◌then◌else◌, length, Option, Some, None, refl}
use Rattle.thy_block.specs.Inside.{is_inside}
use Rattle.thy_block.proofs.InsideLemmas.{is_inside-true}
use Rattle.thy_isa.specs.declared.state.Cause.{Cause}
use Rattle.thy_isa.specs.declared.state.Cause.TheVariants.{LoadMisaligned, LoadAccess, StoreMisaligned, StoreAccess}
use Rattle.thy_isa.specs.declared.state.Effect.{Effect}
use Rattle.thy_isa.specs.declared.state.Effect.TheVariants.{Next, Set, Read, Write, Reserve, Conditional, Fail, Modify, Environment, Trap}
use Rattle.thy_isa.specs.declared.state.OtherHart.{OtherHart}
use Rattle.thy_isa.specs.declared.instr.Width.{Width}
use Rattle.thy_isa.specs.Effects.{size_of}
use Rattle.thy_isa.specs.Reservations.{is_reserved, front_of}
use Rattle.thy_isa.specs.Step.{State, fetch_fault, aligned, if_two, within, fetched, effect_at}
use Rattle.thy_isa.specs.Access.{IsWithin}

if_within : (base size : ℕ) (b : Bool) (e : Effect) (c : Cause) → (b ≡ true → IsWithin base size e)
    → IsWithin base size (if b then e else Trap c)
if_within base size true e c h = h refl
if_within base size false e c h = tt

aligned-within : (base size : ℕ) (width : Width) (at : ℕ) (misaligned access : Cause) (e : Effect)
    → (is_inside base size at (size_of width) ≡ true → IsWithin base size e)
    → IsWithin base size (aligned base size width at misaligned access e)
aligned-within base size width at misaligned access e h =
    if_within base size (at % size_of width == 0) (if is_inside base size at (size_of width) then e else Trap access) misaligned
    (λ _. if_within base size (is_inside base size at (size_of width)) e access h)

two-within : (base size : ℕ) (o : Option OtherHart) (e : Effect) → IsWithin base size e → IsWithin base size (if_two o e)
two-within base size None e h = tt
two-within base size (Some o) e h = h

reserved-within : (base size : ℕ) (b : Bool) (rd : ℕ) (width : Width) (pc at v : ℕ) → IsWithin base size (Conditional rd width pc at v)
    → IsWithin base size (if b then Conditional rd width pc at v else Fail rd pc)
reserved-within base size true rd width pc at v h = h
reserved-within base size false rd width pc at v h = tt

pub within-is : (base size : ℕ) (o : Option OtherHart) (e : Effect) → IsWithin base size (within base size o e)
unfolding within
within-is base size o (Next pc) = tt
within-is base size o (Set rd pc v) = tt
within-is base size o (Read rd width extend pc at) =
    if_within base size (is_inside base size at (size_of width)) (Read rd width extend pc at) LoadAccess
    (is_inside-true base size at (size_of width))
within-is base size o (Write width pc at v) =
    if_within base size (is_inside base size at (size_of width)) (Write width pc at v) StoreAccess (is_inside-true base size at (size_of width))
within-is base size o (Reserve rd width pc at) =
    two-within base size o (aligned base size width at LoadMisaligned LoadAccess (Reserve rd width pc at))
    (aligned-within base size width at LoadMisaligned LoadAccess (Reserve rd width pc at) (is_inside-true base size at (size_of width)))
within-is base size o (Conditional rd width pc at v) =
    let e : Effect = if is_reserved (front_of o) width at then Conditional rd width pc at v else Fail rd pc in
    two-within base size o (aligned base size width at StoreMisaligned StoreAccess e)
    (aligned-within base size width at StoreMisaligned StoreAccess e
    (λ inside. reserved-within base size (is_reserved (front_of o) width at) rd width pc at v (is_inside-true base size at (size_of width) inside)))
within-is base size o (Fail rd pc) = tt
within-is base size o (Modify op rd width pc at v) =
    two-within base size o (aligned base size width at StoreMisaligned StoreAccess (Modify op rd width pc at v))
    (aligned-within base size width at StoreMisaligned StoreAccess (Modify op rd width pc at v) (is_inside-true base size at (size_of width)))
within-is base size o Environment = tt
within-is base size o (Trap c) = tt

pub fetched-within : (base size : ℕ) (o : Option Cause) (e : Effect) → IsWithin base size e → IsWithin base size (fetched o e)
fetched-within base size None e h = h
fetched-within base size (Some c) e h = tt

pub effect_at-within : (base : ℕ) (s : State) → IsWithin base (length s.memory) (effect_at base s)
unfolding effect_at
effect_at-within base s =
    fetched-within base (length s.memory) (fetch_fault base (length s.memory) s.pc) _ (within-is base (length s.memory) s.other _)
