-- What the calls of a driven controller leave.
use Rattle.std.proofs.Common.{◌≡◌, ℕ, true, false, refl, sym, ◌∙◌, ap, Option, Some, None, is_some}
use Rattle.thy_block.specs.declared.block.Block.{Block}
use Rattle.thy_block.specs.Device.{Device}
use Rattle.thy_block.specs.Geometry.{memory_blocks}
use Rattle.thy_table.specs.Places.{image_blocks}
use Rattle.thy_block.proofs.BasicLemmas.{not_some}
use Rattle.thy_table.specs.Devices.{devices_of}
use Rattle.thy_table.proofs.MoveLemmas.{down-written}
use Rattle.thy_control.specs.Copies.{next_copy, devices_after_copy, devices_copied, after_next_copy}
use Rattle.thy_control.specs.Merges.{after_merge, merged_block}
use Rattle.thy_control.specs.Pages.{next_page, devices_after_write, devices_issued, after_next_write}
use Rattle.thy_control.specs.Rules.{devices_after}
use Rattle.thy_control.specs.Seal.{sealed_state}
use Rattle.thy_control.specs.Commit.{committed_state}
use Rattle.thy_control.specs.State.{State}
use Rattle.thy_control.specs.Stays.{AreCopied, Stays}
use Rattle.thy_control.proofs.LeftLemmas.{AreCopied-none}
use Rattle.thy_control_tests.specs.Driven.{Drives}

-- a store, a copy and the write of a page's block leave whether the NVM is down
pub down-after : (b : ℕ) (block : Block) (s : State) (n : Device) → (devices_after b block s n).nvm.down ≡ n.down
unfolding devices_after
down-after b block s n = down-written s.p _ _ (devices_of n s.dram)

pub down-copy : (o : Option ℕ) (s : State) (n : Device) → (devices_after_copy o s n).down ≡ n.down
unfolding devices_copied
down-copy None s n = refl
down-copy (Some i) s n = down-written s.p _ _ (devices_of n s.dram)

pub down-write : (o : Option ℕ) (s : State) (n : Device) → (devices_after_write o s n).down ≡ n.down
unfolding devices_issued
down-write None s n = refl
down-write (Some j) s n = down-written s.p _ _ (devices_of n s.dram)

-- a merge leaves whether a checkpoint is under way; after a seal one is, and after a commit none
pub way-merge : (o : Option ℕ) (s : State) → (after_merge o s).under_way ≡ s.under_way
unfolding merged_block
way-merge None s = refl
way-merge (Some i) s = refl

pub way-sealed : (s : State) → (sealed_state s).under_way ≡ true
unfolding sealed_state
way-sealed s = refl

pub way-committed : (s : State) → (committed_state s).under_way ≡ false
unfolding committed_state
way-committed s = refl

-- the controller is driven still after a seal and after a commit
pub Drives-sealed : (s : State) (n : Device) → Drives s n → Drives (sealed_state s) n
unfolding sealed_state
Drives-sealed s n d = record { blocks = d.blocks; sized = record { nvm = d.sized.nvm }; up = d.up }

pub Drives-committed : (s : State) (n : Device) → Drives s n → Drives (committed_state s) n
unfolding committed_state
Drives-committed s n d = record { blocks = d.blocks; sized = record { nvm = d.sized.nvm }; up = d.up }

-- what stays is driven still, while the NVM is up
pub Drives-stays : (s t : State) (m n : Device) → Drives s m → Stays s m t n → n.down ≡ m.down → Drives t n
Drives-stays s t m n d stays same = record {
  blocks = ap memory_blocks stays.same_p ∙ d.blocks;
  sized = record { nvm = stays.as_long ∙ d.sized.nvm ∙ sym (ap image_blocks stays.same_p) };
  up = same ∙ d.up;
}

-- all is copied once the calls for a copy and for a page's block find none
pub AreCopied-found : (s t u : State) (m n : Device)
    → is_some (next_copy s) ≡ false → t ≡ after_next_copy (next_copy s) s m
    → is_some (next_page t) ≡ false → u ≡ after_next_write (next_page t) t n → AreCopied u
AreCopied-found s t u m n no_copy t_is no_write u_is =
    let copies : next_copy s ≡ None = not_some (next_copy s) no_copy in
    let pages : next_page t ≡ None = not_some (next_page t) no_write in
    let t_same : t ≡ s = t_is ∙ ap (λ o. after_next_copy o s m) copies in
    let u_same : u ≡ t = u_is ∙ ap (λ o. after_next_write o t n) pages in
    AreCopied-none u (record { copies = ap next_copy (u_same ∙ t_same) ∙ copies; pages = ap next_page u_same ∙ pages })
