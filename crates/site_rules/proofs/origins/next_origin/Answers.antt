use Rattle.std.proofs.Common.{length, Some, sym, ap, ◌∙◌, arith}
use Rattle.place_table.specs.Hash.{text_hash}
use Rattle.site_rules.proofs.FirstOrdered.{hashed_count, origin_again, origin_new, origin_there}
use Rattle.site_rules.proofs.origins.next_origin.Goals as goal

pub find-requires : goal.find-requires
find-requires c i l = let many = hashed_count c.args.rows.now c.args.table.now.hashes (length c.args.origins.now) c.requires.left c.requires.hashed in let left = c.requires.left in omega (arith, l, many, left)

pub bounds-origins-earlier : goal.bounds-origins-earlier
bounds-origins-earlier c = let many = hashed_count c.args.rows.now c.args.table.now.hashes (length c.args.origins.now) c.requires.left c.requires.hashed in let l = c.in-Some.ensures.found.0 in omega (arith, l, many)

pub returns-in-Some : goal.returns-in-Some
returns-in-Some c =
    let many = hashed_count c.args.rows.now c.args.table.now.hashes (length c.args.origins.now) c.requires.left c.requires.hashed in
    let l = c.in-Some.ensures.found.0 in
    origin_again c.args.stores.now.content c.args.rows.now c.args.origins.now c.args.row.now c.in-Some.earlier _ c.requires.origins c.requires.left (omega (arith, l, many)) (c.in-Some.ensures.found.1 c.args.row.now)

pub returns-in-Some-find_batch : goal.returns-in-Some-find_batch
returns-in-Some-find_batch c =
    origin_there c.args.stores.now.content c.args.rows.now c.args.row.now.batch c.batch.inside.0 (sym c.find_batch.ensures ∙ c.in-Some-find_batch.is ∙ ap Some (sym c.batch.view_is))

pub returns-in-None : goal.returns-in-None
returns-in-None c =
    origin_new c.args.stores.now.content c.args.rows.now c.args.table.now.hashes (length c.args.origins.now) c.args.row.now c.text_hash.result c.requires.left c.requires.row c.requires.hashed (c.text_hash.ensures ∙ ap text_hash c.bytes.ensures.is) c.in_default.ensures.absent
    (sym c.find_batch.ensures ∙ c.in-None.is)
