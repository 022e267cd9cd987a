-- The closing rule in words of its own.
use Rattle.std.specs.Prelude.{◌≡◌, ℕ, true, false, Some, is_some, ◌<◌, length}
use Rattle.std.specs.List.{AllByRecursion as Every}
use Rattle.deed_words.specs.Names.{Text}
use Rattle.epc_urn.specs.declared.epc.Epc.TheVariants.{Unit as Box}
use Rattle.deed_words.specs.Setups.{Setup}
use Rattle.deed_words.specs.Moves.{is_lent, is_rejected, is_active, is_filling, is_sealed}
use Rattle.deed_words.specs.World.{World, parent, rows_in, units_in, name_of}
use Rattle.deed_words.specs.Accounts.{is_case, has_pallets, has_line, line_numbers, declared_numbers}

-- the batch is accounted for
pub record IsAccounted (site : Setup) (w : World) (name : Text) : Type 0 where
  pub none_lent : Every (λ row. is_lent row.state ≡ false) (rows_in w name)
  pub none_rejected : Every (λ row. is_rejected row.state ≡ false) (rows_in w name)
  pub active_packed : Every (λ row. is_active row.state ≡ true → is_some (parent w (name_of row)) ≡ true) (rows_in w name)
  pub none_filling : Every (λ unit. is_filling unit.mark ≡ false) (units_in w name)
  pub cases_packed : has_pallets w name ≡ true → Every (λ unit. is_case unit.level ≡ true → is_sealed unit.mark ≡ true → is_some (parent w (Box unit.sscc)) ≡ true) (units_in w name)
  pub declared : (line : ℕ) → line < length site.stations → has_line w name line ≡ true → declared_numbers w name line ≡ Some (line_numbers w name line)
