use Rattle.std.proofs.Common.{◌∙◌, ap, subst}
use Rattle.thy_block.specs.Blocks.{block_bytes}
use Rattle.thy_block.specs.LittleEndian.{number_at}
use Rattle.thy_cache.specs.Flat.{ReadsAs}
use Rattle.thy_hart.proofs.FetchLemmas.{word_read}
use Rattle.thy_hart.proofs.fetching.fetch_word.Goals as goal

pub returns-clause-word : goal.returns-clause-word
returns-clause-word c =
    word_read c.args.cache.now c.args.at c.block_in.result.now c.word-number.result c.requires.len c.requires.whole
    (subst (λ b. ReadsAs c.args.cache.now b c.block_in.result.now) c.first_block-b.ensures c.block_in.ensures.reads)
    (c.word-number.ensures
    ∙ ap (λ t. number_at 4 t c.first_byte.result) c.bytes.ensures.bytes
    ∙ ap (number_at 4 (block_bytes c.block_in.result.now)) c.first_byte.ensures)
