-- The functions of the server, after the calls of the Redisson guide.
use Rattle.std.specs.Prelude.{ℕ, List, Bool}
use Rattle.lr_objects.specs.declared.form.Arguments.{Arguments}
use Rattle.lr_objects.specs.declared.kinds.Function.{Function}
use Rattle.lr_objects.specs.Form.{may_begin}
use Rattle.lr_objects.specs.Kinds.{form_of}

-- the word of a function
abbrev pub function_word : Function → List ℕ
function_word function = (form_of function).word

-- what a function is given beside the object and its owner
abbrev pub arguments_of : Function → Arguments
arguments_of function = (form_of function).arguments

-- whether a request may begin with a function
abbrev pub begins : Function → Bool
begins function = may_begin (form_of function).begins
