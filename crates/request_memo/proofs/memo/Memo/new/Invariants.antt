use Rattle.std.proofs.Common.{◌≡◌, map, replicate, [], List}
use Rattle.request_memo.specs.declared.page.Told.{Told}
use Rattle.request_memo.proofs.memo.Memo.new.Given as goal

-- so many empty pages
abbrev pub invariant-loop : goal.invariant-loop
invariant-loop l =
    let nothing : List Told = [] in
    record {
      told : map (λ page. page.told.items) l.pages.items ≡ replicate l.counter nothing;
      room : map (λ page. page.room) l.pages.items ≡ replicate l.counter 0;
    }
