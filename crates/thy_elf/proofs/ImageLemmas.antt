-- The image of a made file.
use Rattle.std.proofs.Common.{◌≡◌, ℕ, ◌+◌, ◌-◌, ◌*◌, ◌≤◌, true, List, [], ◌++◌, length, take, drop, replicate, slice_index, Ok, refl, sym, ◌∙◌, ap, arith}
use Rattle.std.proofs.lemmas.Bool.{le-leb}
use Rattle.std.proofs.lemmas.List.{append-nil, take_all, drop-replicate}
use Rattle.std.specs.List.{flat_map}
use Rattle.thy_block.specs.Bytes.{written}
use Rattle.thy_block.specs.LittleEndian.{number_at, number_bytes}
use Rattle.thy_elf.specs.declared.program_header.ProgramHeader.{ProgramHeader}
use Rattle.thy_elf.specs.Header.{begins_as_elf, header_demands}
use Rattle.thy_elf.specs.Image.{read_of}
use Rattle.thy_elf.specs.ProgramHeader.{program_header}
use Rattle.thy_elf.specs.MadeFile.{field_bytes, file_header, segment_header, made_file}
use Rattle.thy_elf.specs.MadeLaws.{made_contents}
use Rattle.thy_elf.specs.MadeProgram.{made_words}
use Rattle.thy_elf.proofs.FileLemmas.{length-made_file, length-words}
use Rattle.thy_elf.proofs.ProgramLemmas.{length-made_words}

-- the fields of both headers, as the loader reads them
record HasFields (file : List ℕ) : Type 0 where
  elf : begins_as_elf file ≡ true
  wide : slice_index file 4 ≡ 2
  little : slice_index file 5 ≡ 1
  first : slice_index file 6 ≡ 1
  kind : number_at 2 file 16 ≡ 2
  machine : number_at 2 file 18 ≡ 243
  version : number_at 4 file 20 ≡ 1
  entry : number_at 8 file 24 ≡ 65536
  headers : number_at 8 file 32 ≡ 64
  flags : number_at 4 file 48 ≡ 0
  size : number_at 2 file 52 ≡ 64
  entry_size : number_at 2 file 54 ≡ 56
  count : number_at 2 file 56 ≡ 1

-- the program header
segment : ProgramHeader
segment = record { kind = 1; offset = 120; address = 65536; file_size = 24028; memory_size = 24028 }

-- the bytes of both headers
headers : List ℕ
headers = flat_map field_bytes (file_header ++ segment_header 24028)

fields_of : (code : List ℕ) → HasFields (headers ++ code)
unfolding headers number_at number_bytes
fields_of code = record {
  elf = refl;
  wide = refl;
  little = refl;
  first = refl;
  kind = refl;
  machine = refl;
  version = refl;
  entry = refl;
  headers = refl;
  flags = refl;
  size = refl;
  entry_size = refl;
  count = refl;
}

segment_of : (code : List ℕ) → program_header (headers ++ code) 0 ≡ segment
unfolding headers segment number_at number_bytes program_header
segment_of code = refl

behind_headers : (code : List ℕ) → drop 120 (headers ++ code) ≡ code
unfolding headers number_bytes
behind_headers code = refl

-- a file with these headers is read
read_as : (file : List ℕ) (size : ℕ) → HasFields file → program_header file 0 ≡ segment → length file ≡ 24148 → 24028 ≤ size
    → read_of file 65536 size
    ≡ Ok (record {
      entry = 65536;
      floor = 89568;
      memory = written (replicate size 0) 0 (take 24028 (drop 120 file) ++ []);
    })
unfolding segment header_demands
read_as file size f p len l =
    let room = le-leb 89564 (65536 + size) (omega arith) in
    rw (f.elf, f.wide, f.little, f.first, f.kind, f.machine, f.version, f.entry, f.headers, f.flags, f.size, f.entry_size, f.count, p, len, room)
    refl

-- the memory of a program: its words over zeros
written_over : (code : List ℕ) (size : ℕ) → length code ≡ 24028
    → written (replicate size 0) 0 (take 24028 code ++ []) ≡ code ++ replicate (size - 24028) 0
written_over code size e =
    let whole : take 24028 code ++ [] ≡ code = append-nil (take 24028 code) ∙ take_all 24028 code (omega arith) in
    let end : 0 + length code ≡ 24028 = omega arith in
    let rest : drop (0 + length code) (replicate size 0) ≡ replicate (size - 24028) 0 =
    ap (λ k. drop k (replicate size 0)) end ∙ drop-replicate 24028 size 0 in
    ap (λ piece. written (replicate size 0) 0 piece) whole ∙ ap (λ zeros. code ++ zeros) rest

made_file-parts : (n : ℕ) → made_file n ≡ headers ++ flat_map (number_bytes 4) (made_words n)
unfolding made_file headers
made_file-parts n =
    ap (λ k. flat_map field_bytes (file_header ++ segment_header (4 * k)) ++ flat_map (number_bytes 4) (made_words n)) (length-made_words n)

pub files_are_images : (n size : ℕ) → 24028 ≤ size → read_of (made_file n) 65536 size ≡ Ok (made_contents n size)
files_are_images n size l =
    let code = flat_map (number_bytes 4) (made_words n) in
    let parts = made_file-parts n in
    let len : length (headers ++ code) ≡ 24148 = sym (ap length parts) ∙ length-made_file n in
    let words : length code ≡ 24028 = length-words (made_words n) ∙ ap (λ k. 4 * k) (length-made_words n) in
    ap (λ file. read_of file 65536 size) parts
    ∙ read_as (headers ++ code) size (fields_of code) (segment_of code) len l
    ∙ ap (λ bytes. Ok (record { entry = 65536; floor = 89568; memory = bytes }))
    (ap (λ piece. written (replicate size 0) 0 (take 24028 piece ++ [])) (behind_headers code) ∙ written_over code size words)
