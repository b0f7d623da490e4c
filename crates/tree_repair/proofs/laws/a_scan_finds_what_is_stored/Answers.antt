use Rattle.std.proofs.Common.{◌≡◌, ℕ, List, refl, ap, ◌∙◌}
use Rattle.synctree.specs.Outsides.{outside_does}
use Rattle.tree_repair.specs.Contents.{IsStored}
use Rattle.tree_repair.specs.Levels.{scan_plan}
use Rattle.tree_repair.specs.PlainScans.{plain_scan}
use Rattle.tree_repair.proofs.Descending.{scan_is_plain, ends_so}
use Rattle.tree_repair.proofs.laws.a_scan_finds_what_is_stored.Goals as goal

pub returns-clause-reads : goal.returns-clause-reads
returns-clause-reads g c has F top s t strings result ends =
    ends_so (λ u call answer v. outside_does g.N.NodeStore.may_answer g.N.NodeStore.top_record g.N.NodeStore.fault_count g.H.Hasher16.kept g.H.Hasher16.clashes g.H.Hasher16.fulls u call answer v × IsStored has call answer) has (λ u. Unit {0})
    (λ u v digest answer keeps did. (did.1, tt)) (λ u v bytes answer keeps did. tt) (scan_plan F top) (plain_scan F has top) s t strings result tt (scan_is_plain F has top) ends

pub returns-clause-content : goal.returns-clause-content
returns-clause-content g c content has F top s t strings result ends =
    ends_so (outside_does g.N.NodeStore.may_answer g.N.NodeStore.top_record g.N.NodeStore.fault_count g.H.Hasher16.kept g.H.Hasher16.clashes g.H.Hasher16.fulls)
    (content s.0) (λ u. (digest : List ℕ) → content u.0 digest ≡ content s.0 digest)
    (λ u v digest answer keeps did. (has.returns u.0 v.0 digest answer did.0 ∙ keeps digest, λ other. has.stays u.0 v.0 digest other answer did.0 ∙ keeps other))
    (λ u v bytes answer keeps did digest. ap (λ n. content n digest) did.0 ∙ keeps digest)
    (scan_plan F top) (plain_scan F (content s.0) top) s t strings result (λ digest. refl) (scan_is_plain F (content s.0) top) ends
