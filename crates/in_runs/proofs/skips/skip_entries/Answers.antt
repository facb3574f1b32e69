-- `in_runs::skips::skip_entries`: the entries before the first that is not below the row are.
-- By what `position` answers of the entries that are left.
use Rattle.std.proofs.Common.{◌-◌, ◌<◌, ◌≤◌, ◌∙◌, drop, length, arith, rules, tests, length-drop}
use lib.Seq.{take_all}
use Rattle.std.proofs.lemmas.Iterator.{IsFirst-from_position, YieldsList-from_slice}
use Rattle.in_runs.proofs.SkipLaws.{parted_first, parted_none}
use Rattle.in_runs.proofs.skips.skip_entries.Goals as goal

pub returns-in-Some : goal.returns-in-Some
returns-in-Some c =
    let es = c.args.entries.now in
    let next = c.args.next in
    let rest = c.iter.ensures.rest ∙ take_all (length es - next) (drop next es) (omega (arith, length-drop next es)) in
    let found =
    IsFirst-from_position _ _ _ (λ x. c.args.end.0 ≤ x) (λ x. x < c.args.end.0) c.in-Some.ensures.ran
    (YieldsList-from_slice (drop next es) rest) (λ x q k. search (rules, tests)) (λ x q k. search (rules, tests)) in
    (omega arith, parted_first es next c.args.end.0 c.requires.0 c.requires.1 _ c.requires.2 found.0 found.1 found.2)

pub returns-in-None : goal.returns-in-None
returns-in-None c =
    let es = c.args.entries.now in
    let next = c.args.next in
    let rest = c.iter.ensures.rest ∙ take_all (length es - next) (drop next es) (omega (arith, length-drop next es)) in
    let found =
    IsFirst-from_position _ _ _ (λ x. c.args.end.0 ≤ x) (λ x. x < c.args.end.0) c.in-None.ensures.ran
    (YieldsList-from_slice (drop next es) rest) (λ x q k. search (rules, tests)) (λ x q k. search (rules, tests)) in
    (omega arith, parted_none es next c.args.end.0 c.requires.0 c.requires.1 found)
