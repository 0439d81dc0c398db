-- Which entry of a table lists a number, and at which place that puts a block.
use Rattle.std.proofs.Common.{◌≡◌, ℕ, ◌%◌, ◌/◌, ◌<◌, false, Option, Some, None, refl, arith}
use Rattle.thy_block.specs.declared.parameters.Parameters.{Parameters}
use Rattle.thy_block.specs.Geometry.{memory_blocks}
use Rattle.thy_table.specs.Places.{in_dram, IsPlace}
use Rattle.thy_block.specs.Store.{page_of}
use Rattle.thy_layout.specs.Entries.{entry_of}
use Rattle.thy_record.specs.Tables.{Tables, place_by_entries, place_of, IsTables}
use Rattle.thy_layout.proofs.EntryLemmas.{entry_of-Some, Lists-inside}

-- ---- entries

-- ---- places

place_inside : (p : Parameters) (t : Tables) (b : ℕ) (entry page : Option ℕ) → IsTables p t → b < memory_blocks p
    → entry_of t.btt b ≡ entry → entry_of t.ptt (page_of b) ≡ page → IsPlace p (place_by_entries entry page b)
place_inside p t b None None s l e f = l
place_inside p t b None (Some j) s l e f =
    (omega (arith, Lists-inside t.ptt j (page_of b) (entry_of-Some t.ptt (page_of b) j f), s.ptt_length), omega arith)
place_inside p t b (Some i) page s l e f = omega (arith, Lists-inside t.btt i b (entry_of-Some t.btt b i e), s.btt_length)

-- each block of memory has a place
pub IsPlace-place_of : (p : Parameters) (t : Tables) (b : ℕ) → IsTables p t → b < memory_blocks p → IsPlace p (place_of t b)
IsPlace-place_of p t b s l = place_inside p t b (entry_of t.btt b) (entry_of t.ptt (page_of b)) s l refl refl

in_nvm : (entry page : Option ℕ) (b : ℕ) → in_dram (place_by_entries entry page b) ≡ false
in_nvm None None b = refl
in_nvm entry page b = refl

-- the place of each block of memory is in the NVM
pub in_dram-place_of : (t : Tables) (b : ℕ) → in_dram (place_of t b) ≡ false
in_dram-place_of t b = in_nvm (entry_of t.btt b) (entry_of t.ptt (page_of b)) b

same_block : (x y : ℕ) → x / 64 ≡ y / 64 → x % 64 ≡ y % 64 → x ≡ y
same_block x y a b = omega arith

own_place : (t : Tables) (b c : ℕ) (be bp ce cp : Option ℕ)
    → entry_of t.btt b ≡ be → entry_of t.ptt (page_of b) ≡ bp → entry_of t.btt c ≡ ce → entry_of t.ptt (page_of c) ≡ cp
    → place_by_entries be bp b ≡ place_by_entries ce cp c → b ≡ c
own_place t b c None None None None e f g h same = cc
own_place t b c None (Some i) None (Some j) e f g h same =
    let ij : i ≡ j = cc in
    let inner : b % 64 ≡ c % 64 = cc in
    let lb = (entry_of-Some t.ptt (page_of b) i f).is in
    let lc = (entry_of-Some t.ptt (page_of c) j h).is in
    let pages : page_of b ≡ page_of c = cc in
    same_block b c pages inner
own_place t b c (Some i) bp None None e f g h same = cc
own_place t b c (Some i) bp (Some k) cp e f g h same =
    let ik : i ≡ k = cc in
    let lb = (entry_of-Some t.btt b i e).is in
    let lc = (entry_of-Some t.btt c k g).is in
    cc
own_place t b c be bp ce cp e f g h same = cc

-- no two blocks of memory have the same place
pub place_of-own : (t : Tables) (b c : ℕ) → place_of t b ≡ place_of t c → b ≡ c
place_of-own t b c same =
    own_place t b c (entry_of t.btt b) (entry_of t.ptt (page_of b)) (entry_of t.btt c) (entry_of t.ptt (page_of c)) refl refl refl refl same

-- ---- a search through the entries, of which the first i do not list the number
