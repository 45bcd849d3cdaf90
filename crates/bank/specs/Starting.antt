-- Why a run of a bank did not start. Assumes nothing.
use Rattle.std.specs.Prelude.{◌≡◌, ℕ, List, ◌++◌, Some, codes}
use Rattle.fault.specs.Table.{row, printed}
use Rattle.fault.specs.declared.fault.Fault.TheVariants.{Book}
use Rattle.rules.specs.Known.{Front}
use Rattle.rules.specs.Rules.{why_start}
use Rattle.bank.specs.declared.runs.NotStarted.{NotStarted}
use Rattle.bank.specs.declared.runs.NotStarted.TheVariants.{Memory, Refused}

-- There is no memory, or the rules refuse the start.
abbrev pub Reason : ℕ → ℕ → Front → NotStarted → Type 0
Reason q items front Memory = Unit {0}
Reason q items front (Refused f) = why_start q items front ≡ Some f

-- As in `no memory`, `no b 1 17`.
abbrev pub reason_text : NotStarted → List ℕ
reason_text Memory = codes "no memory"
reason_text (Refused f) = codes "no " ++ printed (row (Book f))
