-- A site's store may go to another thread, as its devices may: part by part, since a `search` through all of them runs
-- out of steps. A part without a view lies in what has it as a field, and elsewhere as a row.
use denote.RattleType.{RattleType}
use denote.Param.Send.{IsSend, IsSync, sendable}
use Rattle.std.proofs.Crossing.{crosses}
use Rattle.outside.specs.declared.disk.Disk as disk
use Rattle.gs1_keys.specs.contracts.text.Text20 as Text20
use Rattle.gs1_keys.specs.contracts.gtin.Gtin as Gtin
use Rattle.gs1_keys.specs.contracts.sscc.Sscc as Sscc
use Rattle.gs1_keys.specs.contracts.serials.Serials as Serials
use Rattle.gs1_element.specs.contracts.code.Code as Code
use Rattle.epc_urn.specs.contracts.epc.Epc as Epc
use Rattle.deed_words.specs.contracts.deed.OrderRow as OrderRow
use Rattle.deed_words.specs.contracts.lists.codes.Codes as Codes
use Rattle.deed_words.specs.contracts.lists.epcs.Epcs as Epcs
use Rattle.deed_words.specs.contracts.lists.rows.Rows as Rows
use Rattle.deed_words.specs.contracts.deed.Deed as Deed
use Rattle.deed_words.specs.contracts.rule.Finding as Finding
use Rattle.deed_words.specs.contracts.rule.Rule as Rule
use Rattle.deed_words.specs.contracts.reply.Answer as Answer
use Rattle.deed_words.specs.contracts.reply.Reply as Reply
use Rattle.deed_words.specs.contracts.entry.Entry as Entry
use Rattle.deed_words.specs.contracts.setup.Setup as Setup
use Rattle.place_table.specs.contracts.table.PlaceTable as PlaceTable
use Rattle.row_chains.specs.contracts.chains.RowChains as RowChains
use Rattle.row_lists.specs.contracts.lists.RowLists as RowLists
use Rattle.batch_book.specs.contracts.book.Book as Book
use Rattle.item_store.specs.contracts.items.Items as Items
use Rattle.pack_tree.specs.contracts.packing.Packing as Packing
use Rattle.pack_tree.specs.contracts.units.Units as Units
use Rattle.pack_tree.specs.contracts.tree.Tree as Tree
use Rattle.site_stores.specs.contracts.stores.Stores as Stores
use Rattle.serial_pool.specs.contracts.pool.Pool as Pool
use Rattle.serial_pool.specs.contracts.plan.DrawPlan as DrawPlan
use Rattle.request_memo.specs.contracts.page.Page as Page
use Rattle.request_memo.specs.contracts.memo.Memo as Memo
use Rattle.move_list.specs.contracts.moved.Moved as Moved
use Rattle.move_list.specs.contracts.list.MoveList as MoveList
use Rattle.site_stores.specs.contracts.change.Change as Change
use Rattle.site_core.specs.contracts.planned.Planned as Planned
use Rattle.site_core.specs.contracts.site.Site as Site
use Rattle.gate_journal.specs.contracts.journal.Journal as Journal
use Rattle.site_store.specs.contracts.store.Store as Store
use Rattle.site_turns.specs.contracts.serving.DeskStore as DeskStore
use Rattle.atomic_table.proofs.shared.Shared.TheSendSync as shared
use Rattle.atomic_table.proofs.send_lease.SendLease.TheSendSync as lease
use Rattle.turn_desk.specs.contracts.desk.Desk as Desk
use Rattle.turn_desk.specs.declared.stands.Stands as stands

text_send : IsSend Text20.the_row
text_send = search (sendable, crosses) depth 30

gtin_send : IsSend Gtin.the_row
gtin_send = search (sendable, crosses) depth 30

sscc_send : IsSend Sscc.the_row
sscc_send = search (sendable, crosses) depth 30

serials_send : IsSend Serials.the_row
serials_send = search (sendable, crosses, text_send) depth 30

code_field : IsSend Code.the_field.row
code_field = search (sendable, crosses, text_send, gtin_send) depth 30

code_send : IsSend Code.the_row
code_send = search (sendable, crosses, code_field) depth 30

epc_field : IsSend Epc.the_field.row
epc_field = search (sendable, crosses, text_send, gtin_send, sscc_send) depth 30

epc_send : IsSend Epc.the_row
epc_send = search (sendable, crosses, epc_field) depth 30

order_field : IsSend OrderRow.the_field.row
order_field = search (sendable, crosses, text_send, gtin_send) depth 30

order_send : IsSend OrderRow.the_row
order_send = search (sendable, crosses, order_field) depth 30

codes_send : IsSend Codes.the_row
codes_send = search (sendable, crosses, code_send) depth 30

epcs_send : IsSend Epcs.the_row
epcs_send = search (sendable, crosses, epc_send) depth 30

rows_send : IsSend Rows.the_row
rows_send = search (sendable, crosses, order_send) depth 30

deed_field : IsSend Deed.the_field.row
deed_field = search (sendable, crosses, text_send, sscc_send, serials_send, order_field, codes_send, epcs_send, rows_send) depth 100 fits 8000

finding_field : IsSend Finding.the_field.row
finding_field = search (sendable, crosses, text_send, sscc_send) depth 30

rule_field : IsSend Rule.the_field.row
rule_field = search (sendable, crosses, sscc_send, finding_field) depth 100 fits 8000

answer_field : IsSend Answer.the_field.row
answer_field = search (sendable, crosses, sscc_send, serials_send) depth 30

reply_field : IsSend Reply.the_field.row
reply_field = search (sendable, crosses, answer_field, rule_field) depth 100 fits 8000

entry_field : IsSend Entry.the_field.row
entry_field = search (sendable, crosses, text_send, deed_field, serials_send) depth 100 fits 8000

setup_send : IsSend Setup.the_row
setup_send = search (sendable, crosses, text_send, gtin_send) depth 30

table_send : IsSend PlaceTable.the_row
table_send = search (sendable, crosses) depth 30

chains_send : IsSend RowChains.the_row
chains_send = search (sendable, crosses) depth 30

row_lists_send : IsSend RowLists.the_row
row_lists_send = search (sendable, crosses) depth 30

book_send : IsSend Book.the_row
book_send = search (sendable, crosses, order_field, table_send, chains_send) depth 30

items_send : IsSend Items.the_row
items_send = search (sendable, crosses, text_send, gtin_send, table_send, chains_send) depth 30

packing_send : IsSend Packing.the_row
packing_send = search (sendable, crosses) depth 30

units_send : IsSend Units.the_row
units_send = search (sendable, crosses, sscc_send, table_send) depth 30

tree_send : IsSend Tree.the_row
tree_send = search (sendable, crosses, packing_send, units_send) depth 30

stores_send : IsSend Stores.the_row
stores_send = search (sendable, crosses, book_send, items_send, tree_send) depth 30

pool_send : IsSend Pool.the_row
pool_send = search (sendable, crosses, text_send, gtin_send, table_send) depth 30

plan_field : IsSend DrawPlan.the_field.row
plan_field = search (sendable, crosses, gtin_send, serials_send) depth 30

page_send : IsSend Page.the_row
page_send = search (sendable, crosses, deed_field, reply_field) depth 100 fits 8000

memo_send : IsSend Memo.the_row
memo_send = search (sendable, crosses, page_send) depth 30

moved_field : IsSend Moved.the_field.row
moved_field = search (sendable, crosses, epcs_send) depth 30

moved_send : IsSend Moved.the_row
moved_send = search (sendable, crosses, moved_field) depth 30

moves_send : IsSend MoveList.the_row
moves_send = search (sendable, crosses, moved_send, row_lists_send) depth 30

change_field : IsSend Change.the_field.row
change_field = search (sendable, crosses, gtin_send, sscc_send, serials_send, rows_send) depth 30

planned_field : IsSend Planned.the_field.row
planned_field = search (sendable, crosses, entry_field, reply_field, change_field, plan_field, moved_send) depth 100 fits 8000

planned_send : IsSend Planned.the_row
planned_send = search (sendable, crosses, planned_field) depth 30

site_send : IsSend Site.the_row
site_send = search (sendable, crosses, text_send, setup_send, memo_send, stores_send, pool_send, moves_send) depth 100 fits 8000

module _ (D C W : RattleType) (g : disk.Ghosts D.Denot) where
  journal_send : IsSend D → IsSend (Journal.the_row D g)
  journal_send d = search (sendable, crosses) depth 30

  store_field : IsSend D → IsSend C → IsSend W → IsSend (Store.the_field D C W g).row
  store_field d c w = let j = journal_send d in search (sendable, crosses, site_send, planned_send) depth 100 fits 8000

  pub desk_store_send : IsSend D → IsSend C → IsSend W → IsSend (DeskStore.the_row D C W g)
  desk_store_send d c w = let s = store_field d c w in search (sendable, crosses) depth 30

-- A desk is shared where its value may go to another thread.
module _ (V : RattleType) (g : stands.Ghosts V.Denot) where
  pub desk_sync : IsSend V → IsSync (Desk.the_row V g)
  desk_sync v = search (sendable, crosses, shared.the_sync, lease.the_sync) depth 40 fits 8000
