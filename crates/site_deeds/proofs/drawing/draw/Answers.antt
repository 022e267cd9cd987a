use Rattle.std.proofs.Common.{◌≡◌, ◌≤◌, ℕ, Some, sym, ap, subst}
use Rattle.std.specs.List.{position}
use Rattle.gs1_keys.specs.Forms.{AreNew}
use Rattle.deed_words.specs.Effects.{gtin_of}
use Rattle.deed_words.specs.History.{serials_of}
use Rattle.deed_words.specs.declared.reply.Answer.TheVariants.{Listed}
use Rattle.site_stores.specs.declared.change.Change.TheVariants.{Drawn}
use Rattle.batch_book.specs.Batches.{is_called}
use Rattle.batch_book.specs.Content.{Content, world_in}
use Rattle.site_stores.proofs.Finding.{within}
use Rattle.site_deeds.proofs.OfDraw.{draw_does}
use Rattle.site_deeds.proofs.drawing.draw.Goals as goal

pub batch_at-gtin-requires : goal.batch_at-gtin-requires
batch_at-gtin-requires c = within (is_called c.args.name.now) c.ready.new.self.content.batches c.args.batch (subst (λ (k : Content). position (is_called c.args.name.now) k.batches ≡ Some c.args.batch) (sym c.in_ok-ready.ensures.content) c.requires.place)

pub returns-clause-done : goal.returns-clause-done
returns-clause-done c =
    let back = sym c.in_ok-ready.ensures.content in
    let found = subst (λ (k : Content). position (is_called c.args.name.now) k.batches ≡ Some c.args.batch) back c.requires.place in
    let new = subst (λ (k : Content). AreNew (serials_of (world_in k) (gtin_of (world_in k) c.args.name.now)) c.requires.new.0 c.args.serials.now) back c.requires.new.1 in
    draw_does c.ready.new.self _ c.args.name.now c.args.batch c.batch_at-gtin.result c.requires.new.0 c.args.serials.now c.tell_whole.ensures found c.batch_at-gtin.ensures new (subst (λ (n : ℕ). n ≤ c.ready.new.self.room.rows) c.len.ensures c.in_ok-ready.ensures.ok.rows)
    (ap Listed c.in_ok-told.ensures) (ap (Drawn c.args.batch c.batch_at-gtin.result.order.gtin) c.in_ok-drawn.ensures)
