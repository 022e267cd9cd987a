use Rattle.std.proofs.Common.{refl}
use Rattle.site_files.specs.declared.fault.FileFault.TheVariants as file
use Rattle.site_console.proofs.Completing.{too_long}
use Rattle.site_console.proofs.site_file.setup_in.Goals as goal

pub returns-then-bytes-gt-SITE_LIMIT : goal.returns-then-bytes-gt-SITE_LIMIT
returns-then-bytes-gt-SITE_LIMIT c = (file.Unreadable, too_long c.args.bytes.now c.if-bytes-gt-SITE_LIMIT.true, refl)
