-- The words of records in a store.
use Rattle.std.specs.Prelude.{List, ℕ, ◌<◌, T}
use Rattle.storage.specs.Store.{laid_out}
use Rattle.records.specs.Records.{record_at}

-- each record in use is laid out as it must be
abbrev pub AllLaid : ℕ → List ℕ → Type 0
AllLaid count ws = (r : ℕ) → r < count → T (laid_out (record_at r ws))
