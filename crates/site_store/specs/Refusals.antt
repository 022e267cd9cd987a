-- The answer of a call that refuses all its requests.
use Rattle.site_store.specs.declared.outcome.Outcome.{Outcome}
use Rattle.site_store.specs.declared.outcome.Outcome.TheVariants as outcome
use Rattle.site_store.specs.declared.submit.Refusal.{Refusal}
use Rattle.site_store.specs.declared.submit.Refusal.TheVariants as refusal

abbrev pub refusal_of : Refusal → Outcome
refusal_of refusal.Disk = outcome.DiskFault
refusal_of refusal.Memory = outcome.Memory
