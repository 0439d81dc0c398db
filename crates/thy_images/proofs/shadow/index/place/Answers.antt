use Rattle.std.proofs.Common.{◌∙◌, ℕ, ◌%◌, ap, arith}
use Rattle.thy_images.specs.ShadowPlaces.{pool_place}
use Rattle.thy_images.proofs.shadow.index.place.Goals as goal

pub mapped_page-page-requires-clause-entry : goal.mapped_page-page-requires-clause-entry
mapped_page-page-requires-clause-entry c = omega (arith, c.requires.block)

pub returns : goal.returns
returns c = c.pool.ensures.place ∙ ap (λ (q : ℕ). pool_place c.args.geometry.now q (c.args.b % 64)) c.mapped_page-page.ensures.page
