use Rattle.std.proofs.Common.{sym, ap, arith}
use Rattle.thy_layout.specs.Files.{blocks_of}
use Rattle.thy_layout.specs.Entries.{Lists}
use Rattle.thy_images.specs.ShadowPlaces.{pool_page}
use Rattle.thy_images.specs.ShadowSlots.{table_in}
use Rattle.thy_images.proofs.shadow.map.mapped_page.Goals as goal

pub listed_page-requires-clause-entry : goal.listed_page-requires-clause-entry
listed_page-requires-clause-entry c = omega (arith, c.requires.entry)

pub returns-in-Some-clause-page : goal.returns-in-Some-clause-page
returns-in-Some-clause-page c = ap pool_page c.in-Some.ensures

pub returns-in-Some-clause-inside : goal.returns-in-Some-clause-inside
returns-in-Some-clause-inside c =
    let here : Lists (table_in c.args.geometry.now (blocks_of c.args.slot.now)) c.args.x c.in-Some.page = record { is = sym c.in-Some.ensures } in
    c.requires.map.in_pool c.args.x c.in-Some.page here

pub returns-in-None-clause-page : goal.returns-in-None-clause-page
returns-in-None-clause-page c = ap pool_page c.in-None.ensures
