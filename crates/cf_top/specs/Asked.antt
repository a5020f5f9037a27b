use Rattle.cf_reference.specs.Forms as asked
use Rattle.cf_top.specs.declared.forms.Form.{Form}
use Rattle.cf_top.specs.declared.forms.Form.TheVariants as form

-- what a command line asks for, as the reference run has it
abbrev pub form_view : Form → asked.Form
form_view form.Run = asked.Run
form_view (form.Generated seed) = asked.Generated seed
