-- Which text is sent of what it is made of, and how the run ends then. A rule of this project.
use Rattle.std.specs.Prelude.{ℕ, List}
use Rattle.dwg_file.specs.Contents.{contents_of}
use Rattle.dwg_messages.specs.AppText.{appdata_text}
use Rattle.dwg_messages.specs.AuditText.{audit_text}
use Rattle.dwg_show.specs.DrawingText.{show_text}
use Rattle.dwg_text.specs.Classes.{classes_text}
use Rattle.dwg_text.specs.Sections.{sections_text}
use Rattle.dwg_commands.specs.declared.status.Status.{Status}
use Rattle.dwg_commands.specs.declared.status.Status.TheVariants.{Done}
use Rattle.dwg_commands.specs.declared.printed_output.PrintedOutput.{PrintedOutput}
use Rattle.dwg_commands.specs.declared.printed_output.PrintedOutput.TheVariants as texts
use Rattle.dwg_commands.specs.Answered.{verdict_status}

-- the text
abbrev pub text_of : PrintedOutput → List ℕ
text_of (texts.Sections header) = sections_text header
text_of (texts.Classes classes) = classes_text classes
text_of (texts.Drawing drawing) = show_text (contents_of drawing)
text_of (texts.Findings findings) = audit_text findings
text_of (texts.Items drawing findings) = appdata_text (contents_of drawing).objects findings
text_of (texts.Drill text) = text

-- how the run ends
abbrev pub text_status : PrintedOutput → Status
text_status (texts.Sections header) = Done
text_status (texts.Classes classes) = Done
text_status (texts.Drawing drawing) = Done
text_status (texts.Findings findings) = verdict_status findings
text_status (texts.Items drawing findings) = verdict_status findings
text_status (texts.Drill text) = Done
