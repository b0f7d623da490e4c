-- The text of a report, in the words of serde_json.
use Rattle.std.specs.Prelude.{ℕ, List, [], ◌∷◌, ◌++◌, map, codes}
use Rattle.serde_json.specs.Data.{Data, array, member, no_members, number, object, string, unsigned}
use Rattle.serde_json.specs.View.{items_of}
use Rattle.serde_json.specs.Written.{compact_text}
use Rattle.ens_base.specs.Words.{bytes_word}
use Rattle.history_record.specs.declared.fault.Fault.{Fault}
use Rattle.audit.specs.declared.report.Report.{Report}

-- {"clause": CLAUSE, "id": ID, "key": KEY}
abbrev pub fault_data : Fault → Data
fault_data f = object (member (codes "clause") (number (unsigned f.clause)) (member (codes "id") (number (unsigned f.id)) (member (codes "key") (string (bytes_word f.key)) no_members)))

-- {"faults": [FAULT, ..], "keys": KEYS, "legal": LEGAL}
abbrev pub report_data : Report → Data
report_data r =
    object (member (codes "faults") (array (items_of (map fault_data r.faults.items))) (member (codes "keys") (number (unsigned r.keys)) (member (codes "legal") (number (unsigned r.legal)) no_members)))

-- the report, compact, with a line feed at its end
abbrev pub report_line : Report → List ℕ
report_line r = compact_text (report_data r) ++ 10 ∷ []
