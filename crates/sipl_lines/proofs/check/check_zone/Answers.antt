use Rattle.std.proofs.Common.{sym}
use Rattle.std.proofs.Math.Bool.{or-false}
use Rattle.std.proofs.lemmas.Result.{err_from_is_err_and}
use Rattle.sipl_masterfile.specs.Zones.{zone_of}
use Rattle.sipl_lines.specs.Checking.{report_of}
use Rattle.sipl_lines.specs.Tapped.{tapped_inner, has_failed}
use Rattle.sipl_lines.proofs.Reading.{none_written}
use Rattle.sipl_lines.proofs.check.check_zone.Goals as goal

pub returns-in_err-is_zone : goal.returns-in_err-is_zone
returns-in_err-is_zone g c =
    let p = err_from_is_err_and c.from_residual-in_err-is_zone.result c.from_residual-in_err-is_zone.ensures.1 in
    rw (p.1, p.2) (record {
      report = tt;
      end_of_input = tt;
      prefix = none_written (g.R.Read.remaining (tapped_inner c.args.reader.now)) (g.W.Write.contents (tapped_inner c.args.writer.now)) (λ text. report_of (zone_of text c.args.apex.now));
      reader_failed = c.in_ok-read_all.ensures.failed;
      writer_failed = sym (or-false (has_failed c.args.writer.now));
      unlimited = tt;
    })
