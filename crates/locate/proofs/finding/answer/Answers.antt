-- `answer` goes by what was read. Assumes nothing.
use Rattle.std.proofs.Common.{◌≤◌, length, arith}
use Rattle.listing.specs.Listing.{listing}
use Rattle.listing.proofs.Lines.{puts_first}
use Rattle.locate.proofs.Printing.{prints_found, prints_refused}
use Rattle.locate.proofs.finding.answer.Goals as goal

pub returns-in-Some : goal.returns-in-Some
returns-in-Some c =
    let put = c.put_findings.ensures in
    let room : c.put_findings.result ≤ length c.args.out.now = omega arith in
    (rw c.in-Some.is (prints_found c.args.pixels.now _ c.find.ensures.0 (puts_first put room)), omega arith)

pub returns-in-None : goal.returns-in-None
unfolding listing
returns-in-None c =
    let put = c.put_refused.ensures in
    let room : c.put_refused.result ≤ length c.args.out.now = omega arith in
    (rw c.in-None.is (prints_refused c.args.pixels.now (rw c.from.ensures at (puts_first put room))), omega arith)
