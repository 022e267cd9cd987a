use Rattle.std.proofs.Common.{◌≡◌, ◌∙◌, sym, ap, None, option_map}
use Rattle.http_routes.specs.Pages.{page_rows}
use Rattle.matchit.specs.Level.{IsText}
use Rattle.matchit.specs.Router.{RouteOf}
use Rattle.matchit.specs.Seek.{first}
use Rattle.http_routes.specs.declared.page.Page.{Page}
use Rattle.http_routes.proofs.Served.{served}
use Rattle.http_routes.proofs.Paths.{text_of}
use Rattle.http_routes.proofs.routes.page_at.Goals as goal

pub returns-in-Ok : goal.returns-in-Ok
returns-in-Ok c =
    let text : IsText c.args.path.now = text_of c.args.path.now c.type_inv.path in
    let found : first page_rows c.args.path.now ≡ _ = ap (λ r. first r c.args.path.now) (sym c.requires) ∙ c.in-Ok.ensures.found in
    ap (option_map (λ (r : RouteOf Page). r.value)) (sym found) ∙ served c.args.path.now text

pub returns-in-Err : goal.returns-in-Err
returns-in-Err c =
    let text : IsText c.args.path.now = text_of c.args.path.now c.type_inv.path in
    let found : first page_rows c.args.path.now ≡ None = ap (λ r. first r c.args.path.now) (sym c.requires) ∙ c.in-Err.ensures.missing in
    ap (option_map (λ (r : RouteOf Page). r.value)) (sym found) ∙ served c.args.path.now text
