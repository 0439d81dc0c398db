-- Cuts are counted event by event, and an image is read block by block.
use Rattle.std.proofs.Common.{◌≡◌, ℕ, ◌+◌, ◌<◌, true, false, if◌then◌else◌, List, [], ◌∷◌, ◌++◌, length, take, Some, sym, ◌∙◌, ap, arith}
use Rattle.std.specs.Prelude.{slice_get}
use Rattle.std.proofs.lemmas.List.{take_more, length-append}
use Rattle.std.proofs.lemmas.Option.{get_or_from_slice_get, slice_get_within}
use Rattle.thy_block.specs.declared.block.Block.{Block}
use Rattle.thy_block.specs.Blocks.{block_bytes}
use Rattle.thy_block.specs.Device.{block_at, zero_block}
use Rattle.thy_block.specs.Flat.{flat}
use Rattle.thy_block.proofs.FlatLemmas.{flat_more}
use Rattle.thy_text.specs.Event.{Event, Reload}
use Rattle.thy_run.specs.Cuts.{is_cut, cuts_among}
use Rattle.thy_run.proofs.ListedLemmas.{cuts_among-append}

-- ---- cuts among events

-- the first events and one more
first_cuts : (events : List Event) (i : ℕ) (v : Event) → slice_get events i ≡ Some v
    → cuts_among (take (i + 1) events) ≡ cuts_among (take i events) ++ cuts_among (v ∷ [])
first_cuts events i v is =
    ap cuts_among (take_more events i Reload (slice_get_within events i v is)
    ∙ ap (λ (x : Event). take i events ++ x ∷ []) (get_or_from_slice_get events i v Reload is))
    ∙ cuts_among-append (take i events) (v ∷ [])

one_cut : (v : Event) → is_cut v ≡ true → length (cuts_among (v ∷ [])) ≡ 1
one_cut v is = ap (λ b. length (if b then v ∷ [] else [])) is

no_cut : (v : Event) → is_cut v ≡ false → length (cuts_among (v ∷ [])) ≡ 0
no_cut v is = ap (λ b. length (if b then v ∷ [] else [])) is

more_cuts : (events : List Event) (i : ℕ) (v : Event) → slice_get events i ≡ Some v
    → length (cuts_among (take (i + 1) events)) ≡ length (cuts_among (take i events)) + length (cuts_among (v ∷ []))
more_cuts events i v is = ap length (first_cuts events i v is) ∙ length-append (cuts_among (take i events)) (cuts_among (v ∷ []))

pub counted_more : (events : List Event) (i count : ℕ) (v : Event) → slice_get events i ≡ Some v
    → count ≡ length (cuts_among (take i events)) → is_cut v ≡ true → count + 1 ≡ length (cuts_among (take (i + 1) events))
counted_more events i count v is so_far cut = omega (arith, so_far, more_cuts events i v is, one_cut v cut)

pub counted_none : (events : List Event) (i count : ℕ) (v : Event) → slice_get events i ≡ Some v
    → count ≡ length (cuts_among (take i events)) → is_cut v ≡ false → count ≡ length (cuts_among (take (i + 1) events))
counted_none events i count v is so_far cut = omega (arith, so_far, more_cuts events i v is, no_cut v cut)

-- ---- the bytes of an image

pub bytes_more : (blocks : List Block) (i : ℕ) (bytes new : List ℕ) → i < length blocks → bytes ≡ flat (take i blocks)
    → new ≡ bytes ++ block_bytes (block_at blocks i) → new ≡ flat (take (i + 1) blocks)
bytes_more blocks i bytes new within so_far is =
    is ∙ ap (λ (xs : List ℕ). xs ++ block_bytes (block_at blocks i)) so_far ∙ sym (flat_more blocks i zero_block within)
