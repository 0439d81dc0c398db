-- Part of the claim.
-- What images and files mean, by the scheme that the parameters name.
use Rattle.std.specs.Prelude.{ℕ, List}
use Rattle.thy_block.specs.declared.parameters.Parameters.{Parameters}
use Rattle.thy_block.specs.declared.parameters.SchemeName.{SchemeName}
use Rattle.thy_block.specs.declared.parameters.SchemeName.TheVariants.{Thynvm, Journal, Shadow}
use Rattle.thy_layout.specs.Decoded.{Decoded, Reading}
use Rattle.thy_layout.specs.Files.{decode_file}
use Rattle.thy_layout.specs.Layout.{Layout, Layouts, reading}
use Rattle.thy_record.specs.ThynvmLayouts.{thynvm_layouts}
use Rattle.thy_images.specs.JournalLayout.{journal_layouts}
use Rattle.thy_images.specs.ShadowLayout.{shadow_layouts}

-- how a scheme lays out its images
abbrev pub layouts_by_scheme : SchemeName → Layouts
layouts_by_scheme Thynvm = thynvm_layouts
layouts_by_scheme Journal = journal_layouts
layouts_by_scheme Shadow = shadow_layouts

abbrev pub own_layout : Parameters → Layout
own_layout p = layouts_by_scheme p.scheme p

-- what an image of the NVM decodes to, with epochs and counts below a ceiling
abbrev pub decode_by_scheme : SchemeName → Reading
decode_by_scheme scheme = reading (layouts_by_scheme scheme)

abbrev pub decode_of : Reading
decode_of p ceiling image = decode_by_scheme p.scheme p ceiling image

-- how many blocks an image of a scheme has
abbrev pub blocks_by_scheme : SchemeName → Parameters → ℕ
blocks_by_scheme scheme p = (layouts_by_scheme scheme p).image_blocks

abbrev pub blocks_of_image : Parameters → ℕ
blocks_of_image p = blocks_by_scheme p.scheme p

-- what the bytes of a file decode to
abbrev pub decode_bytes : Parameters → ℕ → List ℕ → Decoded
decode_bytes p ceiling bytes = decode_file (own_layout p) ceiling bytes
