-- What the calls of a memory with its engine leave.
use Rattle.std.proofs.Common.{◌≡◌, ℕ, ◌+◌, ◌≤◌, true, false, length, refl, sym, ◌∙◌, ap, subst}
use Rattle.std.proofs.lemmas.Bool.{both_ways}
use Rattle.thy_block.specs.declared.parameters.Parameters.{Parameters}
use Rattle.thy_block.specs.Device.{Device, IsFramed}
use Rattle.thy_table.specs.Places.{image_blocks}
use Rattle.thy_block.specs.Geometry.{memory_blocks}
use Rattle.thy_isa.specs.declared.state.CpuState.{CpuState}
use Rattle.thy_control.specs.Drains.{after_drain}
use Rattle.thy_control.specs.Frees.{HasNoWork}
use Rattle.thy_control.specs.Promotions.{next_promotion, after_promotion}
use Rattle.thy_control.specs.Seal.{sealed_state}
use Rattle.thy_control.specs.State.{State, AreSoundTables}
use Rattle.thy_control.specs.Stays.{Stays}
use Rattle.thy_checkpoint.specs.Items.{Phase, Resting, Making, Made, Applying}
use Rattle.thy_checkpoint.specs.Progress.{Progress, Fits, new_engine, begun, phase_of, action_next}
use Rattle.thy_thynvm_parts.specs.Filling.{filling_thynvm}
use Rattle.thy_computer.specs.Action.{IsAfter}
use Rattle.thy_computer.proofs.ActionLemmas.{down-after}
use Rattle.thy_thynvm_parts.specs.Design.{is_promoting, items_thynvm}
use Rattle.thy_thynvm_parts.specs.Fitting.{PromotesAtRest, IdleFits, SealFits}
use Rattle.thy_thynvm_parts.proofs.DesignLemmas.{stands_drained}
use Rattle.thy_thynvm_parts.proofs.MergeLemmas.{IsPromoted-next}
use Rattle.thy_thynvm_parts.proofs.StoreLemmas.{work_same}
use Rattle.thy_control_tests.specs.Driven.{Drives}
use Rattle.thy_control_tests.specs.Memory.{MemoryParts, IsMemory, HasRoom}
use Rattle.thy_control_tests.proofs.DrivenLemmas.{Drives-sealed, Drives-stays}

abbrev pub parts : Parameters → State → Progress → Device → ℕ → MemoryParts
parts p s e n cuts = record { p = p; control = s; engine = e; nvm = n; cuts = cuts }

-- the room for cuts stays but for a cut
pub HasRoom-framed : (m n : Device) (cuts : ℕ) → HasRoom m cuts → IsFramed m n → HasRoom n cuts
HasRoom-framed m n cuts room frame =
    subst (λ (k : ℕ). length n.left + cuts ≤ k) (sym frame.left_room)
    (subst (λ l. length l + cuts ≤ m.left_room) (sym frame.left) room)

-- ---- pages in promotion

-- with none, nothing is asked of work; after the promotion of a block there is none, as before
pub whole-rests : (s : State) → is_promoting s ≡ false → PromotesAtRest s
whole-rests s none = λ p. absurd (both_ways (is_promoting s) none p)

work_none : (q : Phase) (s : State) → items_thynvm.stands q s → is_promoting s ≡ true → HasNoWork s
work_none Resting s h p = h.promotes p
work_none (Making from) s h p = h.promotes p
work_none Made s h p = h.at.promotes p
work_none (Applying from) s h p = absurd h

pub promoted-rests : (e : Progress) (s t : State) (m : Device) → Fits filling_thynvm items_thynvm e s → is_promoting s ≡ true
    → t ≡ after_promotion (next_promotion s) s m → PromotesAtRest t
promoted-rests e s t m fits some is = λ p.
    work_same s t (ap (λ (x : State). x.btt) is ∙ (IsPromoted-next s m (next_promotion s)).blocks) (work_none (phase_of e.stage) s fits.stands some)

-- ---- the calls

-- a memory begins with no checkpoint under way
pub IsMemory-begun : (p : Parameters) (s : State) (e : Progress) (n : Device) (cuts : ℕ) → s.p ≡ p → Drives s n → s.under_way ≡ false
    → HasRoom n cuts → e ≡ new_engine p → AreSoundTables s → is_promoting s ≡ false → IdleFits → IsMemory (parts p s e n cuts)
IsMemory-begun p s e n cuts same drives idle room begins tables none fit =
    subst (λ (x : Progress). IsMemory (parts p s x n cuts)) (sym begins)
    (record { same_p = same; drives = drives; fits = fit (new_engine p) s same refl idle tables (whole-rests s none); room = room })

-- what stays is a memory still, while the NVM is up
pub IsMemory-stays : (p : Parameters) (e : Progress) (s t : State) (m n : Device) (cuts : ℕ)
    → IsMemory (parts p s e m cuts) → Fits filling_thynvm items_thynvm e t → Stays s m t n → n.down ≡ m.down → IsFramed m n
    → IsMemory (parts p t e n cuts)
IsMemory-stays p e s t m n cuts w fits stays same frame = record {
  same_p = stays.same_p ∙ w.same_p;
  drives = Drives-stays s t m n w.drives stays same;
  fits = fits;
  room = HasRoom-framed m n cuts w.room frame;
}

-- what is a memory is one after a seal
pub IsMemory-sealed : (p : Parameters) (e f : Progress) (s t : State) (n : Device) (cuts epoch : ℕ) (cpu : CpuState)
    → IsMemory (parts p s e n cuts) → t ≡ sealed_state s → f ≡ begun cpu epoch e → AreSoundTables t → HasNoWork t → SealFits
    → IsMemory (parts p t f n cuts)
unfolding sealed_state
IsMemory-sealed p e f s t n cuts epoch cpu w t_is f_is tables idle fit =
    subst (λ (x : Progress). IsMemory (parts p t x n cuts)) (sym f_is)
    (subst (λ (x : State). IsMemory (parts p x (begun cpu epoch e) n cuts)) (sym t_is)
    (record {
      same_p = w.same_p;
      drives = Drives-sealed s n w.drives;
      fits = fit e s cpu epoch w.fits (subst (λ (x : State). AreSoundTables x) t_is tables) (subst (λ (x : State). HasNoWork x) t_is idle);
      room = w.room;
    }))

-- what is a memory is one once a write of the DRAM landed
pub IsMemory-drained : (p : Parameters) (e : Progress) (s t : State) (n : Device) (cuts : ℕ) → IsMemory (parts p s e n cuts) → t ≡ after_drain s
    → IsMemory (parts p t e n cuts)
IsMemory-drained p e s t n cuts w is =
    subst (λ (x : State). IsMemory (parts p x e n cuts)) (sym is)
    (record {
      same_p = w.same_p;
      drives = record { blocks = w.drives.blocks; sized = record { nvm = w.drives.sized.nvm }; up = w.drives.up };
      fits = record { same_p = w.fits.same_p; inside = w.fits.inside; stands = stands_drained (phase_of e.stage) s w.fits.stands };
      room = w.room;
    })

-- what is a memory is one after an action of the engine
pub IsMemory-item : (p : Parameters) (e f : Progress) (s t : State) (m n : Device) (cuts : ℕ)
    → IsMemory (parts p s e m cuts) → Fits filling_thynvm items_thynvm f t → f.p ≡ e.p → IsAfter (action_next filling_thynvm items_thynvm e s m) m n → IsFramed m n
    → IsMemory (parts p t f n cuts)
IsMemory-item p e f s t m n cuts w fits same n_is frame =
    let t_p : t.p ≡ s.p = fits.same_p ∙ same ∙ sym w.fits.same_p in
    record {
      same_p = t_p ∙ w.same_p;
      drives = record {
        blocks = ap memory_blocks t_p ∙ w.drives.blocks;
        sized = record { nvm = frame.blocks ∙ w.drives.sized.nvm ∙ sym (ap image_blocks t_p) };
        up = down-after (action_next filling_thynvm items_thynvm e s m) m n n_is ∙ w.drives.up;
      };
      fits = fits;
      room = HasRoom-framed m n cuts w.room frame;
    }
