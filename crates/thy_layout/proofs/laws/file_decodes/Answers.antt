use Rattle.thy_layout.proofs.ReaderLemmas.{decode_file-flat}
use Rattle.thy_layout.proofs.laws.file_decodes.Goals as goal

pub returns : goal.returns
returns c = decode_file-flat
