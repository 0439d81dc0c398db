-- How long files are.
use Rattle.std.proofs.Common.{◌≡◌, ℕ, ◌+◌, ◌*◌, List, [], ◌∷◌, ◌++◌, length, refl, sym, ◌∙◌, ap, arith, length-append}
use Rattle.std.proofs.lemmas.List.Concat.{flat_map-append}
use Rattle.std.specs.List.{flat_map}
use Rattle.thy_block.specs.LittleEndian.{number_bytes}
use Rattle.thy_elf.specs.declared.made.one_segment.HeaderField.{HeaderField}
use Rattle.thy_elf.specs.MadeFile.{field_bytes, file_header, segment_header, file_of, made_file}
use Rattle.thy_elf.specs.MadeProgram.{made_words}
use Rattle.thy_elf.proofs.ProgramLemmas.{length-made_words}

-- a word has four bytes
pub length-words : (ws : List ℕ) → length (flat_map (number_bytes 4) ws) ≡ 4 * length ws
unfolding number_bytes
length-words [] = refl
length-words (w ∷ ws) = let e = length-words ws in omega (arith, e)

-- both headers together have 120 bytes
length-headers : (size : ℕ) → length (flat_map field_bytes (file_header ++ segment_header size)) ≡ 120
unfolding number_bytes
length-headers size = refl

pub length-file_of : (ws : List ℕ) → length (file_of ws) ≡ 120 + 4 * length ws
length-file_of ws =
    let head = length-headers (4 * length ws) in
    let rest = length-words ws in
    length-append (flat_map field_bytes (file_header ++ segment_header (4 * length ws))) (flat_map (number_bytes 4) ws)
    ∙ omega (arith, head, rest)

pub length-made_file : (n : ℕ) → length (made_file n) ≡ 24148
unfolding made_file
length-made_file n = let l = length-made_words n in length-file_of (made_words n) ∙ omega (arith, l)

-- the bytes of headers and words, as they are added
pub file_joined : (words start one two three : List ℕ) (size : ℕ) (head segment : List HeaderField)
    → head ≡ file_header → segment ≡ segment_header size → size ≡ 4 * length words → start ≡ []
    → one ≡ start ++ flat_map field_bytes head
    → two ≡ one ++ flat_map field_bytes segment
    → three ≡ two ++ flat_map (number_bytes 4) words
    → three ≡ file_of words
file_joined words start one two three size head segment h s l p q r t =
    let e = flat_map-append field_bytes file_header (segment_header (4 * length words)) in
    rw (t, r, q, p, s, h, l) (ap (λ bytes. bytes ++ flat_map (number_bytes 4) words) (sym e))
