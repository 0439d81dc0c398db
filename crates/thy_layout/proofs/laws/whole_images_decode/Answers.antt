use Rattle.thy_layout.proofs.LayoutLemmas.{decode_by-zero, decode_by-nothing_back, decode_by-whole, decode_by-whole_back}
use Rattle.thy_layout.proofs.laws.whole_images_decode.Goals as goal

pub returns-clause-zero : goal.returns-clause-zero
returns-clause-zero c = decode_by-zero

pub returns-clause-nothing : goal.returns-clause-nothing
returns-clause-nothing c = decode_by-nothing_back

pub returns-clause-whole : goal.returns-clause-whole
returns-clause-whole c = decode_by-whole

pub returns-clause-decoded : goal.returns-clause-decoded
returns-clause-decoded c = decode_by-whole_back
