pub mod EdgeAnswers
