use Rattle.std.proofs.Common.{◌≡◌, ◌++◌, [], ◌∷◌, Some, refl, codes}
use Rattle.matchit.proofs.OnLiterals.{matchit_on_literals}
use Rattle.matchit.specs.Rows.{param_token}
use Rattle.matchit.specs.Router.{rename}
use Rattle.http_routes.specs.declared.page.Page.TheVariants.{Requests, Report, Events, Item, Unit as OneUnit}
use Rattle.http_routes.specs.Pages.{Routes, added, page_entry}

-- the rows after each of the five routes
abbrev pub rows-0 : Routes
rows-0 = rename page_entry ([])

abbrev pub rows-1 : Routes
rows-1 = rename page_entry ((codes "/stations/" ++ param_token ∷ codes "/requests/" ++ param_token ∷ [], 3) ∷ [])

abbrev pub rows-2 : Routes
rows-2 = rename page_entry ((codes "/batches/" ++ param_token ∷ [], 1) ∷ (codes "/stations/" ++ param_token ∷ codes "/requests/" ++ param_token ∷ [], 3) ∷ [])

abbrev pub rows-3 : Routes
rows-3 = rename page_entry ((codes "/batches/" ++ param_token ∷ codes "/events/" ++ param_token ∷ codes "/" ++ param_token ∷ [], 0) ∷ (codes "/batches/" ++ param_token ∷ [], 1) ∷ (codes "/stations/" ++ param_token ∷ codes "/requests/" ++ param_token ∷ [], 3) ∷ [])

abbrev pub rows-4 : Routes
rows-4 = rename page_entry ((codes "/batches/" ++ param_token ∷ codes "/events/" ++ param_token ∷ codes "/" ++ param_token ∷ [], 0) ∷ (codes "/batches/" ++ param_token ∷ [], 1) ∷ (codes "/items/" ++ param_token ∷ codes "/" ++ param_token ∷ [], 2) ∷ (codes "/stations/" ++ param_token ∷ codes "/requests/" ++ param_token ∷ [], 3) ∷ [])

abbrev pub rows-5 : Routes
rows-5 = rename page_entry ((codes "/batches/" ++ param_token ∷ codes "/events/" ++ param_token ∷ codes "/" ++ param_token ∷ [], 0) ∷ (codes "/batches/" ++ param_token ∷ [], 1) ∷ (codes "/items/" ++ param_token ∷ codes "/" ++ param_token ∷ [], 2) ∷ (codes "/stations/" ++ param_token ∷ codes "/requests/" ++ param_token ∷ [], 3) ∷ (codes "/units/" ++ param_token ∷ [], 4) ∷ [])

pub added-1 : added (codes "/stations/{station}/requests/{number}") Requests rows-0 ≡ Some rows-1
unfolding matchit_on_literals
added-1 = refl

pub added-2 : added (codes "/batches/{batch}") Report rows-1 ≡ Some rows-2
unfolding matchit_on_literals
added-2 = refl

pub added-3 : added (codes "/batches/{batch}/events/{from}/{count}") Events rows-2 ≡ Some rows-3
unfolding matchit_on_literals
added-3 = refl

pub added-4 : added (codes "/items/{gtin}/{serial}") Item rows-3 ≡ Some rows-4
unfolding matchit_on_literals
added-4 = refl

pub added-5 : added (codes "/units/{sscc}") OneUnit rows-4 ≡ Some rows-5
unfolding matchit_on_literals
added-5 = refl
