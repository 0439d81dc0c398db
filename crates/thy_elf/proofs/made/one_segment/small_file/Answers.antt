use Rattle.std.proofs.Common.{◌*◌, length, refl}
use Rattle.thy_elf.proofs.FileLemmas.{file_joined}
use Rattle.thy_elf.proofs.made.one_segment.small_file.Goals as goal

pub returns : goal.returns
returns c =
    file_joined c.args.words.now _ _ _ _ (4 * length c.args.words.now) _ _ c.file_header.ensures c.segment_header.ensures refl
    c.in_ok-file.ensures.empty c.in_ok-push_fields.ensures c.in_ok-push_fields-2.ensures c.in_ok-push_words.ensures
