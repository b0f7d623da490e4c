use Rattle.std.proofs.Common.{[], ◌++◌, take, sym, ap, ◌∙◌, append-nil}
use Rattle.environment.specs.Maps.{Entries}
use Rattle.disk_stores.specs.Records.{record_bytes, entries_of, file_of, with_records}
use Rattle.disk_stores.proofs.RecordLaws.{puts_read, records_none, spelling_cut}
use Rattle.disk_stores.proofs.laws.a_file_holds_what_was_put.Goals as goal

pub returns-clause-whole : goal.returns-clause-whole
returns-clause-whole c puts fit =
    ap entries_of (sym (append-nil (file_of puts))) ∙ ap (with_records []) (puts_read puts [] fit ∙ append-nil puts)

pub returns-clause-torn : goal.returns-clause-torn
returns-clause-torn c puts name content n fit fits less =
    let cut = take n (record_bytes name content) in
    ap (with_records []) (puts_read puts cut fit ∙ ap (λ (l : Entries). puts ++ l) (records_none cut (spelling_cut name content n fits.0 fits.1 less)) ∙ append-nil puts)
