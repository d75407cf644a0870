-- How names, values and calls are printed in a trace: as in a text of events.
pub use Rattle.fmp_text.specs.Printed.{mode_text, separator, arguments_from}
unfoldable pub use Rattle.fmp_text.specs.Printed.{named, object_text, value_text, after_name, call_text}
