-- The requests that wait for a turn.
use Rattle.std.specs.Prelude.{List, [], Option, Some, None}
use Rattle.site_turns.specs.Posted.{Posted}
use Rattle.site_turns.specs.declared.lists.Lists.{Lists}

abbrev pub posts_in : Option Lists → List Posted
posts_in None = []
posts_in (Some lists) = lists.posts.items
