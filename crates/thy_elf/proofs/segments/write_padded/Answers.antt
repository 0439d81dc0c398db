use Rattle.std.proofs.Common.{◌≡◌, ◌+◌, ◌-◌, length, take, drop, replicate, ap, sym, ◌∙◌, refl, arith}
use Rattle.std.proofs.lemmas.List.{length-replicate, length-take, length-drop}
use borrow.Rule.Slice.PartMut.{put_mid}
use Rattle.thy_elf.proofs.MemoryLemmas.{put_mid_twice, length-put_mid}
use Rattle.thy_elf.proofs.segments.write_padded.Goals as goal

pub returns : goal.returns
returns c =
    let memory = c.args.memory.now in
    let piece = c.args.piece.now in
    let middle = c.args.at + length piece in
    let once = put_mid c.args.at (middle - c.args.at) memory c.copy_from_slice.new.self in
    let copied : c.copy_from_slice.new.self ≡ piece = c.copy_from_slice.ensures.after in
    let kept : length once ≡ length memory = length-put_mid memory c.copy_from_slice.new.self c.args.at (middle - c.args.at)
    (omega (arith, ap length copied)) (omega (arith, ap length copied)) in
    let size : length (take (middle + c.args.zeros - middle) (drop middle once)) ≡ c.args.zeros =
    simp (length-take, length-drop, kept) (omega arith) in
    let cleared : c.clear.new.part ≡ replicate c.args.zeros 0 = c.clear.ensures ∙ ap (λ n. replicate n 0) size in
    rw (copied, cleared) (put_mid_twice memory piece (replicate c.args.zeros 0) c.args.at (length piece) c.args.zeros refl
    (sym (length-replicate c.args.zeros 0)) c.requires)
