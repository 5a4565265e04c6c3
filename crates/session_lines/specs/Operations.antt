-- A session's bytes as calls on a register.
-- Source: docs/REFERENCE.md, 'Session'.
use Rattle.std.specs.Prelude.{ℕ, cond, List, ◌++◌, length, Option, Some, None, Ok, codes}
use Rattle.std.specs.Str.{bytes_eq}
use Rattle.record.specs.Layout.{max_tags, max_models}
use Rattle.models.specs.Summary.{inputs_size}
use Rattle.desks.specs.declared.Desk.TheVariants.{Manager}
use Rattle.desks.specs.Desks.{number_of}
use Rattle.register.specs.Calls.{Call, report, summary, conviction}
use Rattle.record.specs.Encoded.{unsigned_of, pad, height_bytes, message_bytes, place_bytes, sighting_bytes, cited_bytes}
use Rattle.session_lines.specs.declared.lines.Due.TheVariants as due
use Rattle.session_lines.specs.declared.lines.Kind.{Kind}
use Rattle.session_lines.specs.declared.lines.Kind.TheVariants as kind
use Rattle.session_lines.specs.Numbers as Val
use Rattle.session_lines.specs.Lines.{At, Reading, ◌>>=◌, value}

-- a session acts as a manager
unfoldable pub conviction_at : At → Reading Call
conviction_at s = do
  engine ← value due.Engine (Val.read_number Val.u8) s
  Ok (conviction (number_of Manager) engine.0, engine.1)

unfoldable pub summary_at : At → Reading Call
summary_at s = do
  engine ← value due.Engine (Val.read_number Val.u8) s
  model ← value due.Model (Val.read_number Val.u8) engine.1
  spec ← value due.Spec (Val.read_number Val.u16) model.1
  inputs ← value due.Inputs (Val.read_hex inputs_size) spec.1
  Ok (summary engine.0 model.0 spec.0 inputs.0, inputs.1)

unfoldable pub report_at : At → Reading Call
report_at s = do
  engine ← value due.Engine (Val.read_number Val.u8) s
  time ← value due.Time (Val.read_number Val.u64) engine.1
  lat ← value due.Lat Val.read_signed time.1
  lon ← value due.Lon Val.read_signed lat.1
  height ← value due.Height Val.read_height lon.1
  message ← value due.Message Val.read_message height.1
  tags ← value due.Tags Val.read_tags message.1
  used ← value due.Used (Val.read_number Val.u32) tags.1
  models ← value due.Models Val.read_models used.1
  spec ← value due.Spec (Val.read_number Val.u16) models.1
  cov ← value due.Cov Val.read_covariance spec.1
  Ok (
    report engine.0 (place_bytes time.0 (unsigned_of lat.0) (unsigned_of lon.0) (height_bytes height.0)
        ++ (sighting_bytes (message_bytes message.0) (length tags.0) used.0 (pad max_tags tags.0)
        ++ cited_bytes (length models.0) (pad max_models models.0) spec.0 cov.0)),
    cov.1,
  )

unfoldable pub kind_of : List ℕ → Option Kind
kind_of t =
    cond (bytes_eq t (codes "summary")) (Some kind.Summary)
    (cond (bytes_eq t (codes "convict")) (Some kind.Conviction)
    (cond (bytes_eq t (codes "report")) (Some kind.Report) None))

abbrev pub operands_at : Kind → At → Reading Call
operands_at kind.Summary s = summary_at s
operands_at kind.Conviction s = conviction_at s
operands_at kind.Report s = report_at s

unfoldable pub operation_at : At → Reading Call
operation_at s = do
  k ← value due.Op kind_of s
  operands_at k.0 k.1
